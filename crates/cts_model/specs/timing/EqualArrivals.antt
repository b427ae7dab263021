-- The least period where the clock reaches all registers at once: the case of no skew in
-- Fishburn, "Clock Skew Optimization", 1990.
use Rattle.std.specs.Prelude.{◌≡◌, ℕ, ◌<◌, ◌⊎◌, ℤ, ◌+ℤ◌, ◌≤ℤ◌, ◌<ℤ◌, List}
use Rattle.cts_model.specs.Types.{Circuit, Tech, PairDelay, ZeroSkew, Fails, Setup}
use Rattle.cts_model.specs.declared.timing.ZeroSkew.TheVariants.{Floor}
use Rattle.cts_model.specs.netlist.Paths.{IsPath}
use Rattle.cts_model.specs.timing.Delays.{least_delay, greatest_delay}

-- the period that a path needs: its greatest delay and the setup time
abbrev pub need_of : Circuit → Tech → List ℕ → ℤ
need_of circuit tech path = greatest_delay circuit tech path +ℤ tech.setup

-- the least and the greatest delay over all paths of a pair, each shown by one of them
pub record IsPairDelay (circuit : Circuit) (tech : Tech) (pair : PairDelay) : Type 0 where
  pub least_shown : (path : List ℕ) × IsPath circuit pair.from pair.to path
      × (least_delay circuit tech path ≡ pair.least)
  pub least : (path : List ℕ) → IsPath circuit pair.from pair.to path
      → pair.least ≤ℤ least_delay circuit tech path
  pub greatest_shown : (path : List ℕ) × IsPath circuit pair.from pair.to path
      × (greatest_delay circuit tech path ≡ pair.greatest)
  pub greatest : (path : List ℕ) → IsPath circuit pair.from pair.to path
      → greatest_delay circuit tech path ≤ℤ pair.greatest

-- pairs go by the register that launches, and then by the one that captures
abbrev pub ComesBefore : (from to later_from later_to : ℕ) → Type 0
ComesBefore from to later_from later_to = (from < later_from)
    ⊎ ((from ≡ later_from) × (to < later_to))

-- a pair of which the property holds, and it holds of no earlier one
pub record IsFirstPair (Property : ℕ → ℕ → Type 0) (from to : ℕ) : Type 0 where
  pub here : Property from to
  pub first : (earlier_from earlier_to : ℕ) → ComesBefore earlier_from earlier_to from to
      → Property earlier_from earlier_to → ⊥

-- some path between the two comes before the hold time
abbrev pub FailsHold : Circuit → Tech → ℕ → ℕ → Type 0
FailsHold circuit tech from to = (path : List ℕ) × IsPath circuit from to path
    × (least_delay circuit tech path <ℤ tech.hold)

-- some path between the two needs this period
abbrev pub NeedsPeriod : Circuit → Tech → ℤ → ℕ → ℕ → Type 0
NeedsPeriod circuit tech period from to = (path : List ℕ) × IsPath circuit from to path
    × (need_of circuit tech path ≡ period)

-- every path meets the hold time, and none needs more than the period
pub record IsEnough (circuit : Circuit) (tech : Tech) (period : ℤ) : Type 0 where
  pub hold : (from to : ℕ) (path : List ℕ) → IsPath circuit from to path
      → tech.hold ≤ℤ least_delay circuit tech path
  pub setup : (from to : ℕ) (path : List ℕ) → IsPath circuit from to path
      → need_of circuit tech path ≤ℤ period

-- no period will do, since this pair fails its hold time
pub record IsFailing (circuit : Circuit) (tech : Tech) (pair : PairDelay) : Type 0 where
  pub delays : IsPairDelay circuit tech pair
  pub first : IsFirstPair (FailsHold circuit tech) pair.from pair.to

-- the least period is the floor, which is enough for every path
pub record IsFloor (circuit : Circuit) (tech : Tech) (period : ℤ) : Type 0 where
  pub enough : IsEnough circuit tech period
  pub is_floor : period ≡ tech.floor

-- the least period is above the floor, since this pair needs it
pub record IsSetup (circuit : Circuit) (tech : Tech) (period : ℤ) (pair : PairDelay) : Type 0 where
  pub enough : IsEnough circuit tech period
  pub above_floor : tech.floor <ℤ period
  pub delays : IsPairDelay circuit tech pair
  pub first : IsFirstPair (NeedsPeriod circuit tech period) pair.from pair.to

-- the least period at equal arrivals, and what shows it
abbrev pub IsZeroSkew : Circuit → Tech → ZeroSkew → Type 0
IsZeroSkew circuit tech (Fails pair) = IsFailing circuit tech pair
IsZeroSkew circuit tech (Floor value) = IsFloor circuit tech value
IsZeroSkew circuit tech (Setup value pair) = IsSetup circuit tech value pair
