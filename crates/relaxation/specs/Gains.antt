-- What constraints ask of registers beyond the tails that they lead from, and values of the
-- registers that satisfy them. Cormen, Leiserson, Rivest and Stein, "Introduction to Algorithms",
-- 2001, section 24.4.
use Rattle.std.specs.Prelude.{ℕ, ℤ, pos, ◌+ℤ◌, ◌-ℤ◌, ◌*ℤ◌, ◌≤ℤ◌, if◌then◌else◌, List, [], ◌∷◌, All}
use Rattle.cts_model.specs.declared.constraint.Constraint.{Constraint}
use Rattle.relaxation.specs.declared.gains.Gains.{Gains}

-- what a constraint asks of the head beyond the tail
abbrev pub gain_of : Gains → Constraint → ℤ
gain_of gains constraint = (gains.scale *ℤ constraint.weight)
    -ℤ (if constraint.setup then gains.setup else gains.hold)

-- the sum of the gains
abbrev pub total_gain : Gains → List Constraint → ℤ
total_gain gains [] = pos 0
total_gain gains (constraint ∷ constraints) =
    gain_of gains constraint +ℤ total_gain gains constraints

-- each head's value is high enough, at a scale that many times as fine
abbrev pub SatisfiesGains : List Constraint → Gains → (times : ℕ) → (value : ℕ → ℤ) → Type 0
SatisfiesGains constraints gains times value =
    All (λ constraint. (value constraint.tail +ℤ (pos times *ℤ gain_of gains constraint))
    ≤ℤ value constraint.head) constraints

-- some values satisfy the constraints
abbrev pub AdmitsGains : List Constraint → Gains → Type 0
AdmitsGains constraints gains = (value : ℕ → ℤ) × SatisfiesGains constraints gains 1 value
