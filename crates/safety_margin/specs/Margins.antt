-- What constraints can spare at a period: every setup and every hold inequality holds with so much
-- more. Fishburn, "Clock Skew Optimization", 1990. Weights are in ticks; the period, the margin and
-- the arrivals are in ticks over a scale.
use Rattle.std.specs.Prelude.{◌≡◌, ◌≤◌, ℕ, ℤ, pos, ◌+ℤ◌, ◌-ℤ◌, ◌*ℤ◌, ◌≤ℤ◌, List, All, Contains, length}
use Rattle.cts_base.specs.declared.fraction.Fraction.{Fraction}
use Rattle.cts_model.specs.declared.constraint.Constraint.{Constraint}
use Rattle.cts_model.specs.Vocabulary.{count_of, IsCycle, total_count, total_weight}

-- the arrival at the head is late enough, with this much to spare
abbrev pub SparesOne : (scale : ℕ) (period margin : ℤ) (arrival : ℕ → ℤ) → Constraint → Type 0
SparesOne scale period margin arrival constraint =
    (arrival constraint.tail +ℤ ((pos scale *ℤ constraint.weight) +ℤ margin))
    ≤ℤ (arrival constraint.head +ℤ (period *ℤ pos (count_of constraint)))

-- what it is that arrivals spare a margin at a period, all over a scale
abbrev pub Sparing : Type 1
Sparing = (scale : ℕ) (period margin : ℤ) (arrival : ℕ → ℤ) → Type 0

-- they spare it in each constraint
abbrev pub Spares : List Constraint → Sparing
Spares constraints scale period margin arrival =
    All (SparesOne scale period margin arrival) constraints

-- the number over the scale is the fraction
abbrev pub IsOver : Fraction → (scale : ℕ) (number : ℤ) → Type 0
IsOver fraction scale number = number *ℤ fraction.den ≡ fraction.num *ℤ pos scale

-- no arrivals spare more at the period, at any scale
abbrev pub SparesNoMore : Sparing → (period value : Fraction) → Type 0
SparesNoMore Holds period value = (scale : ℕ) (number margin : ℤ) (arrival : ℕ → ℤ)
    → 1 ≤ scale → IsOver period scale number → Holds scale number margin arrival
    → (margin *ℤ value.den) ≤ℤ (value.num *ℤ pos scale)

-- the cycle spares just this at the period: the period as often as it is counted, less the weights,
-- is the margin for each constraint
pub record ShowsMargin (cycle : List Constraint) (period value : Fraction) : Type 0 where
  pub is_cycle : IsCycle cycle
  pub spares : value.den *ℤ ((period.num *ℤ pos (total_count cycle))
      -ℤ (period.den *ℤ total_weight cycle))
      ≡ value.num *ℤ (period.den *ℤ pos (length cycle))

-- no constraints of the list are a cycle
abbrev pub HasNoCycle : List Constraint → Type 0
HasNoCycle constraints = (cycle : List Constraint) → All (Contains constraints) cycle
    → IsCycle cycle → ⊥
