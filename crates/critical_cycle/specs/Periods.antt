-- The least period that constraints admit, at or above a floor, and the cycle that shows it.
-- Fishburn, "Clock Skew Optimization", 1990.
use Rattle.std.specs.Prelude.{ℕ, ℤ, ◌*ℤ◌, ◌<ℤ◌, List, All, Contains, nat_abs}
use Rattle.cts_base.specs.declared.fraction.Fraction.{Fraction}
use Rattle.cts_model.specs.declared.constraint.Constraint.{Constraint}
use Rattle.cts_model.specs.Vocabulary.{ShowsPeriod, ForbidsPeriods, IsLeastPeriodOf, IsSmallPeriod}
use Rattle.critical_cycle.specs.CyclePlaces.{AreWithin, IsFromLowest, constraints_at}
use Rattle.critical_cycle.specs.declared.period.Period.{Period}
use Rattle.critical_cycle.specs.declared.period.Period.TheVariants.{Cycle, Floor, Never}
use Rattle.critical_cycle.specs.declared.ratio.Ratio.{Ratio}
use Rattle.critical_cycle.specs.declared.ratio.Ratio.TheVariants as ratio

-- the value is the least period, above the floor, and the cycle at these places shows it
pub record IsShownPeriod (constraints : List Constraint) (floor : ℤ) (value : Fraction)
    (cycle : List ℕ) : Type 0 where
  pub least : IsLeastPeriodOf constraints floor value.num (nat_abs value.den)
  pub above : (floor *ℤ value.den) <ℤ value.num
  pub within : AreWithin constraints cycle
  pub shows : ShowsPeriod (constraints_at constraints cycle) value.num (nat_abs value.den)
  pub lowest : IsFromLowest (constraints_at constraints cycle)

-- the cycle at these places forbids every period
pub record IsForbidden (constraints : List Constraint) (cycle : List ℕ) : Type 0 where
  pub within : AreWithin constraints cycle
  pub forbids : ForbidsPeriods (constraints_at constraints cycle)
  pub lowest : IsFromLowest (constraints_at constraints cycle)

-- the answer is right: the least period, shown by a cycle or by the floor, or a cycle that forbids
-- all
abbrev pub IsPeriodOf : List Constraint → (floor : ℤ) → Period → Type 0
IsPeriodOf constraints floor (Cycle value cycle) = IsShownPeriod constraints floor value cycle
IsPeriodOf constraints floor Floor = IsLeastPeriodOf constraints floor floor 1
IsPeriodOf constraints floor (Never cycle) = IsForbidden constraints cycle

-- the value of the cycle, if one shows the period, is small
abbrev pub HasSmallValue : Period → Type 0
HasSmallValue (Cycle value cycle) = IsSmallPeriod value
HasSmallValue Floor = Unit {0}
HasSmallValue (Never cycle) = Unit {0}

-- some cycle of these constraints forbids every period
abbrev pub HasForbidding : List Constraint → Type 0
HasForbidding constraints = (cycle : List Constraint)
    × All (Contains constraints) cycle × ForbidsPeriods cycle

-- the answer is that the least period is the floor's
abbrev pub IsFloor : Period → Type 0
IsFloor (Cycle value cycle) = ⊥
IsFloor Floor = Unit {0}
IsFloor (Never cycle) = ⊥

-- the answer is that no period is long enough
abbrev pub IsNeverPeriod : Period → Type 0
IsNeverPeriod (Cycle value cycle) = ⊥
IsNeverPeriod Floor = ⊥
IsNeverPeriod (Never cycle) = Unit {0}

-- the greatest ratio as a period
abbrev pub period_of : Ratio → Period
period_of (ratio.Cycle value cycle) = Cycle value cycle
period_of ratio.First = Floor
period_of (ratio.Never cycle) = Never cycle
