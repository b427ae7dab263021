-- What shows the least period of a circuit, and what shows that it has none. Fishburn, "Clock Skew
-- Optimization", 1990. Times are in ticks.
use Rattle.std.specs.Prelude.{◌≡◌, ◌≤◌, ℕ, ℤ, pos, ◌*ℤ◌, ◌<ℤ◌, List, All, nat_abs}
use Rattle.cts_base.specs.declared.fraction.Fraction.{Fraction}
use Rattle.cts_model.specs.Types.{Circuit, Tech, Constraint, PeriodShow, Cycle, Floor}
use Rattle.cts_model.specs.timing.Timing.{IsAdmitted, IsLeastPeriod}
use Rattle.cts_model.specs.timing.Constraints.{IsConstraintOf}
use Rattle.cts_model.specs.timing.Cycles.{ShowsPeriod, ForbidsPeriods}

-- the fraction is the least period of the circuit
abbrev pub IsLeastFraction : Circuit → Tech → Fraction → Type 0
IsLeastFraction circuit tech period =
    IsLeastPeriod circuit tech period.num (nat_abs period.den)

-- the period is above the floor, and the circuit's constraints round this cycle show it
pub record IsCritical (circuit : Circuit) (tech : Tech) (period : Fraction)
    (cycle : List Constraint) : Type 0 where
  pub of_circuit : All (IsConstraintOf circuit tech) cycle
  pub above_floor : (tech.floor *ℤ period.den) <ℤ period.num
  pub shows : ShowsPeriod cycle period.num (nat_abs period.den)

-- the period is the floor
pub record IsFloorPeriod (tech : Tech) (period : Fraction) : Type 0 where
  pub value : period.num ≡ tech.floor
  pub whole : period.den ≡ pos 1

-- what shows that no period is less: a critical cycle, or exactly at the floor the floor
abbrev pub IsPeriodShow : Circuit → Tech → Fraction → PeriodShow → Type 0
IsPeriodShow circuit tech period (Cycle cycle) = IsCritical circuit tech period cycle
IsPeriodShow circuit tech period Floor = IsFloorPeriod tech period

-- the circuit's constraints round this cycle forbid every period
pub record IsForbidding (circuit : Circuit) (tech : Tech) (cycle : List Constraint) : Type 0 where
  pub of_circuit : All (IsConstraintOf circuit tech) cycle
  pub forbids : ForbidsPeriods cycle

-- no period is admitted
abbrev pub HasNoPeriod : Circuit → Tech → Type 0
HasNoPeriod circuit tech = (scale : ℕ) (period : ℤ) → 1 ≤ scale
    → IsAdmitted circuit tech scale period → ⊥
