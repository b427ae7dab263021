-- The pairs that paths join, from one register after the other.
use Rattle.std.specs.Prelude.{◌≡◌, ◌≤◌, ℕ, List, length, All, Option, Some, IsSome, IsSomeAnd, MatchOption, slice_get}
use Rattle.path_delays.specs.Types.{Circuit, Tech, PairDelay}
use Rattle.cts_model.specs.Vocabulary.{IsPath, IsPairDelay, ComesBefore, AreOrdered, IsListed, ListsPairs, JoinsMoreThan, IsSmallPair}
use Rattle.path_delays.specs.declared.fault.PairFault.{PairFault}
use Rattle.path_delays.specs.declared.fault.PairFault.TheVariants.{TooManyPairs, NoMemory}

-- the two registers, and the delays over all paths from the one to the other
pub record IsDelayBetween (circuit : Circuit) (tech : Tech) (from to : ℕ)
    (pair : PairDelay) : Type 0 where
  pub from_is : pair.from ≡ from
  pub to_is : pair.to ≡ to
  pub delays : IsPairDelay circuit tech pair
  pub small : IsSmallPair pair

-- nothing exactly where no path joins the two registers
abbrev pub IsJoinedBy : Circuit → Tech → ℕ → ℕ → Option PairDelay → Type 0
IsJoinedBy circuit tech from to joined =
    MatchOption joined ((path : List ℕ) → IsPath circuit from to path → ⊥)
    (IsDelayBetween circuit tech from to)

-- for each pair of registers, in order, what joins them
pub record AreDelaysBetween (circuit : Circuit) (tech : Tech) (pairs : List (ℕ × ℕ))
    (delays : List (Option PairDelay)) : Type 0 where
  pub all : length delays ≡ length pairs
  pub each : (place from to : ℕ) → slice_get pairs place ≡ Some (from, to)
      → IsSomeAnd (slice_get delays place) (IsJoinedBy circuit tech from to)

-- each joined pair that comes before this one, once and in order
pub record ListsPairsBefore (circuit : Circuit) (tech : Tech) (from to : ℕ)
    (pairs : List PairDelay) : Type 0 where
  pub ordered : AreOrdered pairs
  pub before : All (λ pair. ComesBefore pair.from pair.to from to) pairs
  pub delays : All (IsPairDelay circuit tech) pairs
  pub small : All IsSmallPair pairs
  pub all : (launch capture : ℕ) (path : List ℕ) → ComesBefore launch capture from to
      → IsPath circuit launch capture path → IsListed launch capture pairs

-- the limit on joined pairs
abbrev pub pair_limit : ℕ
pair_limit = 1048576

-- a list that is full, and one more pair; memory may run out at any list
abbrev pub MeetsLimit : Option PairDelay → List PairDelay → PairFault → Type 0
MeetsLimit joined pairs TooManyPairs = IsSome joined × (pair_limit ≤ length pairs)
MeetsLimit joined pairs NoMemory = Unit {0}

-- all joined pairs, within the limit
pub record ArePairs (circuit : Circuit) (tech : Tech) (pairs : List PairDelay) : Type 0 where
  pub lists : ListsPairs circuit tech pairs
  pub few : length pairs ≤ pair_limit
  pub small : All IsSmallPair pairs

-- more pairs are joined than the limit; memory may run out at any circuit
abbrev pub ShowsTooMany : Circuit → PairFault → Type 0
ShowsTooMany circuit TooManyPairs = JoinsMoreThan circuit pair_limit
ShowsTooMany circuit NoMemory = Unit {0}
