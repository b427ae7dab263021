-- Periods and arrivals that serve the delay tables of several corners at once. Fishburn, "Clock
-- Skew Optimization", 1990, in each corner. Times are in ticks over a scale.
use Rattle.std.specs.Prelude.{◌<◌, ◌≤◌, ◌*◌, ◌≡◌, ℕ, ℤ, pos, ◌*ℤ◌, ◌≤ℤ◌, ◌<ℤ◌, List, All, length, nat_abs}
use Rattle.cts_base.specs.declared.fraction.Fraction.{Fraction}
use Rattle.corners.specs.Types.{Circuit, Schedule, Tech}
use Rattle.cts_model.specs.Vocabulary.{arrival_of, AreFromZero, Meets}

-- the arrivals meet the period over every path, by the table of each corner
abbrev pub MeetsEach : Circuit → List Tech → (scale : ℕ) (period : ℤ) (arrival : ℕ → ℤ) → Type 0
MeetsEach circuit techs scale period arrival =
    All (λ tech. Meets circuit tech scale period arrival) techs

-- the period isn't below the floor of any corner
abbrev pub IsAboveFloors : List Tech → (scale : ℕ) (period : ℤ) → Type 0
IsAboveFloors techs scale period = All (λ tech. (pos scale *ℤ tech.floor) ≤ℤ period) techs

-- neither is it, and some arrivals meet it in each corner
abbrev pub IsCommonPeriod : Circuit → List Tech → (scale : ℕ) (period : ℤ) → Type 0
IsCommonPeriod circuit techs scale period = IsAboveFloors techs scale period
    × ((arrival : ℕ → ℤ) × MeetsEach circuit techs scale period arrival)

-- the fraction is such a period, and no smaller one is, whatever its denominator
pub record IsLeastCommonPeriod (circuit : Circuit) (techs : List Tech)
    (period : Fraction) : Type 0 where
  pub common : IsCommonPeriod circuit techs (nat_abs period.den) period.num
  pub least : (scale : ℕ) (other : ℤ) → 1 ≤ scale
      → (other *ℤ pos (nat_abs period.den)) <ℤ (period.num *ℤ pos scale)
      → IsCommonPeriod circuit techs scale other → ⊥

-- there is no such period
abbrev pub HasNoCommonPeriod : Circuit → List Tech → Type 0
HasNoCommonPeriod circuit techs = (scale : ℕ) (period : ℤ) → 1 ≤ scale
    → IsCommonPeriod circuit techs scale period → ⊥

-- the arrivals meet the period in each corner and are from 0 on, and any others that do and are, at
-- a scale that many times as fine, are at least as late
pub record AreLeastCommonArrivals (circuit : Circuit) (techs : List Tech) (period : ℤ) (scale : ℕ)
    (at : List ℤ) : Type 0 where
  pub meets : MeetsEach circuit techs scale period (arrival_of at)
  pub from_zero : AreFromZero (length at) (arrival_of at)
  pub least : (times : ℕ) (other : ℕ → ℤ) → 1 ≤ times → AreFromZero (length at) other
      → MeetsEach circuit techs (scale * times) (period *ℤ pos times) other
      → (register : ℕ) → register < length at
      → (pos times *ℤ arrival_of at register) ≤ℤ other register

-- an arrival for each register, over the period's denominator, and they are the least
pub record IsLeastCommonSchedule (circuit : Circuit) (techs : List Tech) (period : Fraction)
    (schedule : Schedule) : Type 0 where
  pub den : schedule.den ≡ period.den
  pub registers : length schedule.at ≡ length circuit.registers
  pub least : AreLeastCommonArrivals circuit techs period.num (nat_abs period.den) schedule.at
