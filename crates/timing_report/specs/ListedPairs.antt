-- What the delays of listed pairs, in ticks, ask of the period where the clock reaches all
-- registers at once.
use Rattle.std.specs.Prelude.{◌≡◌, ◌<◌, ℕ, ℤ, ◌+ℤ◌, ◌≤ℤ◌, ◌<ℤ◌, List, length, All, slice_index_or}
use Rattle.cts_model.specs.declared.tech.Tech.{Tech}
use Rattle.cts_model.specs.declared.timing.PairDelay.{PairDelay}
use Rattle.cts_model.specs.declared.timing.ZeroSkew.{ZeroSkew}
use Rattle.cts_model.specs.declared.timing.ZeroSkew.TheVariants.{Fails, Setup}
use Rattle.cts_model.specs.declared.timing.ZeroSkew.TheVariants.{Floor}

-- the first pair of the list of which the property holds
pub record IsFirstOf (Property : PairDelay → Type 0) (pairs : List PairDelay)
    (pair : PairDelay) : Type 0 where
  pub place : ℕ
  pub within : place < length pairs
  pub here : slice_index_or pairs place pair ≡ pair
  pub holds : Property pair
  pub first : (earlier : ℕ) (other : PairDelay) → earlier < place
      → Property (slice_index_or pairs earlier other) → ⊥

-- the pair comes before the hold time
abbrev pub IsTooQuick : ℤ → PairDelay → Type 0
IsTooQuick hold pair = pair.least <ℤ hold

-- the pair needs no more than this period
abbrev pub NeedsAtMost : ℤ → ℤ → PairDelay → Type 0
NeedsAtMost setup period pair = (pair.greatest +ℤ setup) ≤ℤ period

-- the pair needs this period
abbrev pub Needs : ℤ → ℤ → PairDelay → Type 0
Needs setup period pair = pair.greatest +ℤ setup ≡ period

-- every pair meets the hold time, and none needs more than the period
pub record IsEnoughForAll (tech : Tech) (pairs : List PairDelay) (period : ℤ) : Type 0 where
  pub hold : All (λ pair. tech.hold ≤ℤ pair.least) pairs
  pub setup : All (NeedsAtMost tech.setup period) pairs

-- no pair needs more than the floor
pub record IsFloorForAll (tech : Tech) (pairs : List PairDelay) (period : ℤ) : Type 0 where
  pub enough : IsEnoughForAll tech pairs period
  pub is_floor : period ≡ tech.floor

-- the pair is the first that needs the most, and that is above the floor
pub record IsMostNeeded (tech : Tech) (pairs : List PairDelay) (period : ℤ)
    (pair : PairDelay) : Type 0 where
  pub enough : IsEnoughForAll tech pairs period
  pub above_floor : tech.floor <ℤ period
  pub first : IsFirstOf (Needs tech.setup period) pairs pair

-- the least period for these pairs, and what shows it
abbrev pub IsZeroSkewOf : Tech → List PairDelay → ZeroSkew → Type 0
IsZeroSkewOf tech pairs (Fails pair) = IsFirstOf (IsTooQuick tech.hold) pairs pair
IsZeroSkewOf tech pairs (Floor value) = IsFloorForAll tech pairs value
IsZeroSkewOf tech pairs (Setup value pair) = IsMostNeeded tech pairs value pair
