-- Arrivals that satisfy constraints by their gains, and the least of them. Cormen, Leiserson,
-- Rivest and Stein, "Introduction to Algorithms", 2001, section 24.4.
use Rattle.std.specs.Prelude.{◌≡◌, ◌<◌, ◌≤◌, ℕ, ℤ, pos, ◌*ℤ◌, ◌≤ℤ◌, List, length}
use Rattle.cts_base.specs.declared.fraction.Fraction.{Fraction}
use Rattle.cts_model.specs.declared.constraint.Constraint.{Constraint}
use Rattle.cts_model.specs.Vocabulary.{arrival_of, AreFromZero}
use Rattle.relaxation.specs.declared.gains.Gains.{Gains}
use Rattle.relaxation.specs.Gains.{SatisfiesGains}

-- the gains at a period, over its denominator
pub record AreGainsOf (period : Fraction) (gains : Gains) : Type 0 where
  pub scale_is : gains.scale ≡ period.den
  pub setup_is : gains.setup ≡ period.num
  pub hold_is : gains.hold ≡ pos 0

-- any others from 0 on that satisfy the constraints, at a scale that many times as fine, are at
-- least as late
abbrev pub AreLeastBy : List Constraint → Gains → List ℤ → Type 0
AreLeastBy constraints gains at = (times : ℕ) (other : ℕ → ℤ) → 1 ≤ times
    → AreFromZero (length at) other → SatisfiesGains constraints gains times other
    → (register : ℕ) → register < length at
    → (pos times *ℤ arrival_of at register) ≤ℤ other register

-- the arrivals satisfy the constraints, are from 0 on, and are the least that do
pub record AreLeastArrivalsBy (constraints : List Constraint) (gains : Gains)
    (at : List ℤ) : Type 0 where
  pub satisfies : SatisfiesGains constraints gains 1 (arrival_of at)
  pub from_zero : AreFromZero (length at) (arrival_of at)
  pub least : AreLeastBy constraints gains at
