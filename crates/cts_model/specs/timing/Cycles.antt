-- Cycles of constraints between registers, and what they show of the period. Fishburn, "Clock Skew
-- Optimization", 1990.
use Rattle.std.specs.Prelude.{◌≡◌, ◌≢◌, ◌≤◌, ℕ, ℤ, pos, ◌+ℤ◌, ◌*ℤ◌, ◌≤ℤ◌, ◌<ℤ◌, List, [], ◌∷◌, AllPairs, IsSomeAnd, slice_get, sum_by}
use Rattle.cts_model.specs.Types.{Constraint}
use Rattle.cts_model.specs.timing.Constraints.{count_of, Satisfies}

-- the constraints lead from the one register to the other: the head of each is the tail of the next
abbrev pub Leads : ℕ → List Constraint → ℕ → Type 0
Leads from [] to = from ≡ to
Leads from (constraint ∷ constraints) to =
    (constraint.tail ≡ from) × Leads constraint.head constraints to

-- constraints, at least one, that lead from a register back to it, and none is a tail twice
pub record IsCycle (cycle : List Constraint) : Type 0 where
  pub closed : IsSomeAnd (slice_get cycle 0) (λ first. Leads first.tail cycle first.tail)
  pub once : AllPairs (λ first second. first.tail ≢ second.tail) cycle

-- the sum of the weights
abbrev pub total_weight : List Constraint → ℤ
total_weight [] = pos 0
total_weight (constraint ∷ constraints) = constraint.weight +ℤ total_weight constraints

-- how often the constraints count the period
abbrev pub total_count : List Constraint → ℕ
total_count constraints = sum_by count_of constraints

-- the cycle shows a period: it counts the period, and its weights sum to that count of periods
pub record ShowsPeriod (cycle : List Constraint) (numerator : ℤ) (denominator : ℕ) : Type 0 where
  pub is_cycle : IsCycle cycle
  pub counts : 1 ≤ total_count cycle
  pub value : (pos denominator *ℤ total_weight cycle) ≡ (numerator *ℤ pos (total_count cycle))

-- the cycle forbids every period: it asks for time and never counts the period
pub record ForbidsPeriods (cycle : List Constraint) : Type 0 where
  pub is_cycle : IsCycle cycle
  pub counts : total_count cycle ≡ 0
  pub asks : pos 0 <ℤ total_weight cycle

-- the period isn't below the floor, and some arrivals satisfy the constraints
abbrev pub AdmitsPeriod : List Constraint → (floor : ℤ) (scale : ℕ) (period : ℤ) → Type 0
AdmitsPeriod constraints floor scale period = ((pos scale *ℤ floor) ≤ℤ period)
    × ((arrival : ℕ → ℤ) × Satisfies constraints scale period arrival)

-- the constraints admit a period, a fraction, and no smaller one, whatever its denominator
pub record IsLeastPeriodOf (constraints : List Constraint) (floor : ℤ) (numerator : ℤ)
    (denominator : ℕ) : Type 0 where
  pub proper : 1 ≤ denominator
  pub admitted : AdmitsPeriod constraints floor denominator numerator
  pub least : (scale : ℕ) (period : ℤ) → 1 ≤ scale
      → (period *ℤ pos denominator) <ℤ (numerator *ℤ pos scale)
      → AdmitsPeriod constraints floor scale period → ⊥
