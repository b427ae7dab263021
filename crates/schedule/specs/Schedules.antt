-- The least arrivals that satisfy constraints at a period. Fishburn, "Clock Skew Optimization",
-- 1990. Weights are in ticks; the period and the arrivals are in ticks over a denominator.
use Rattle.std.specs.Prelude.{◌<◌, ◌≤◌, ◌*◌, ◌-◌, ℕ, ℤ, pos, ◌*ℤ◌, ◌≤ℤ◌, List, All, length, nat_abs}
use Rattle.cts_base.specs.declared.fraction.Fraction.{Fraction}
use Rattle.cts_model.specs.declared.constraint.Constraint.{Constraint}
use Rattle.cts_model.specs.Vocabulary.{AreSmallConstraints, Satisfies, arrival_of, AreFromZero}
use Rattle.relaxation.specs.Gains.{AdmitsGains}
use Rattle.relaxation.specs.declared.gains.Gains.{Gains}

-- any others from 0 on that satisfy the constraints, at a scale that many times as fine, are at
-- least as late
abbrev pub AreLeast : List Constraint → (numerator : ℤ) (denominator : ℕ) → List ℤ → Type 0
AreLeast constraints numerator denominator at = (times : ℕ) (other : ℕ → ℤ) → 1 ≤ times
    → AreFromZero (length at) other
    → Satisfies constraints (denominator * times) (numerator *ℤ pos times) other
    → (register : ℕ) → register < length at
    → (pos times *ℤ arrival_of at register) ≤ℤ other register

-- the arrivals satisfy the constraints at the period, are from 0 on, and are the least that do
pub record IsLeastScheduleOf (constraints : List Constraint) (numerator : ℤ) (denominator : ℕ)
    (at : List ℤ) : Type 0 where
  pub satisfies : Satisfies constraints denominator numerator (arrival_of at)
  pub from_zero : AreFromZero (length at) (arrival_of at)
  pub least : AreLeast constraints numerator denominator at

-- where no weight is above this one, no arrival is above so many of it as there are other registers
abbrev pub AreWithinWeights : List Constraint → (denominator : ℕ) → List ℤ → Type 0
AreWithinWeights constraints denominator at = (weight : ℕ)
    → All (λ constraint. constraint.weight ≤ℤ pos weight) constraints
    → (register : ℕ) → register < length at
    → arrival_of at register ≤ℤ pos ((length at - 1) * (denominator * weight))

-- some arrivals satisfy the constraints at the period
abbrev pub IsAdmittedBy : List Constraint → Fraction → Type 0
IsAdmittedBy constraints period = (arrival : ℕ → ℤ)
    × Satisfies constraints (nat_abs period.den) period.num arrival

-- small constraints between so many registers that admit the gains
pub record CanSchedule (constraints : List Constraint) (gains : Gains)
    (registers : ℕ) : Type 0 where
  pub small : AreSmallConstraints registers constraints
  pub admitted : AdmitsGains constraints gains
