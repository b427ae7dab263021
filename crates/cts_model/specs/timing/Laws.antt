-- What constraints and their cycles say of the period, whatever the arrivals. Fishburn, "Clock Skew
-- Optimization", 1990. Each law is the clause of a function of the module laws.
use Rattle.std.specs.Prelude.{◌≤◌, ℕ, ℤ, pos, ◌*ℤ◌, ◌≤ℤ◌, ◌<ℤ◌, List, All, Contains, nat_abs}
use Rattle.cts_base.specs.declared.fraction.Fraction.{Fraction}
use Rattle.cts_model.specs.Types.{Circuit, Tech, Constraint}
use Rattle.cts_model.specs.timing.Timing.{Meets, IsAdmitted}
use Rattle.cts_model.specs.timing.Constraints.{IsSatisfied, Satisfies, IsConstraintOf}
use Rattle.cts_model.specs.timing.Cycles.{IsCycle, total_weight, total_count, ShowsPeriod, ForbidsPeriods}
use Rattle.cts_model.specs.timing.LeastPeriods.{IsCritical, IsForbidding, HasNoPeriod}

-- round a cycle the arrivals cancel: its weights sum to no more than the periods that it counts
abbrev pub CycleBoundsPeriod : Type 0
CycleBoundsPeriod = (cycle : List Constraint) (scale : ℕ) (period : ℤ) (arrival : ℕ → ℤ)
    → IsCycle cycle → Satisfies cycle scale period arrival
    → (pos scale *ℤ total_weight cycle) ≤ℤ (period *ℤ pos (total_count cycle))

-- constraints among which a cycle shows a period are satisfied at no smaller one
abbrev pub ShownPeriodIsLeast : Type 0
ShownPeriodIsLeast = (constraints cycle : List Constraint) (numerator : ℤ) (denominator : ℕ)
    → (scale : ℕ) (period : ℤ) (arrival : ℕ → ℤ)
    → All (Contains constraints) cycle → ShowsPeriod cycle numerator denominator
    → (period *ℤ pos denominator) <ℤ (numerator *ℤ pos scale)
    → Satisfies constraints scale period arrival → ⊥

-- constraints among which a cycle forbids every period are satisfied at none
abbrev pub ForbiddenAtAll : Type 0
ForbiddenAtAll = (constraints cycle : List Constraint) (scale : ℕ) (period : ℤ) (arrival : ℕ → ℤ)
    → All (Contains constraints) cycle → ForbidsPeriods cycle
    → 1 ≤ scale → Satisfies constraints scale period arrival → ⊥

-- arrivals that meet a period over every path satisfy each constraint of the circuit
abbrev pub MeetsConstraints : Type 0
MeetsConstraints = (circuit : Circuit) (tech : Tech) (scale : ℕ) (period : ℤ) (arrival : ℕ → ℤ)
    → Meets circuit tech scale period arrival
    → (constraint : Constraint) → IsConstraintOf circuit tech constraint
    → IsSatisfied scale period arrival constraint

-- where a cycle of the circuit's constraints shows a period, no smaller one is admitted
abbrev pub CriticalIsLeast : Type 0
CriticalIsLeast = (circuit : Circuit) (tech : Tech) (shown : Fraction) (cycle : List Constraint)
    → IsCritical circuit tech shown cycle → (scale : ℕ) (period : ℤ) → 1 ≤ scale
    → (period *ℤ pos (nat_abs shown.den)) <ℤ (shown.num *ℤ pos scale)
    → IsAdmitted circuit tech scale period → ⊥

-- where a cycle of the circuit's constraints forbids every period, none is admitted
abbrev pub ForbiddingAtAll : Type 0
ForbiddingAtAll = (circuit : Circuit) (tech : Tech) (cycle : List Constraint)
    → IsForbidding circuit tech cycle → HasNoPeriod circuit tech
