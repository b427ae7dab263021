-- What a cycle says of a ratio that is tried. The next trial is at the cycle's own ratio:
-- Dinkelbach, "On nonlinear fractional programming", 1967.
use Rattle.std.specs.Prelude.{◌≡◌, ◌≤◌, pos, ◌*ℤ◌, ◌≤ℤ◌, ◌<ℤ◌, List}
use Rattle.cts_base.specs.declared.fraction.Fraction.{Fraction}
use Rattle.cts_model.specs.declared.constraint.Constraint.{Constraint}
use Rattle.critical_cycle.specs.declared.measure.Measure.{Measure}
use Rattle.critical_cycle.specs.Measures.{CanTry, cycle_count, cycle_weight}
use Rattle.critical_cycle.specs.declared.shown.Shown.{Shown}
use Rattle.critical_cycle.specs.declared.shown.Shown.TheVariants.{First, Value, Never}

-- the constraints count, and their ratio is this value, greater than the one that is tried
pub record IsRaisedTo (measure : Measure) (ratio : Fraction) (steps : List Constraint)
    (value : Fraction) : Type 0 where
  pub counts : 1 ≤ cycle_count measure steps
  pub value_is : (value.den *ℤ cycle_weight measure steps)
      ≡ (value.num *ℤ pos (cycle_count measure steps))
  pub above : (ratio.num *ℤ value.den) <ℤ (value.num *ℤ ratio.den)
  pub valid : CanTry measure value

-- the constraints weigh more than 0 and never count
pub record NeverCounts (measure : Measure) (steps : List Constraint) : Type 0 where
  pub counts : cycle_count measure steps ≡ 0
  pub weighs : pos 0 <ℤ cycle_weight measure steps

-- the ratio that is tried is enough for the cycle, or the cycle's is greater, or none is enough
abbrev pub IsRaise : Measure → (ratio : Fraction) → List Constraint → Shown → Type 0
IsRaise measure ratio steps First = (ratio.den *ℤ cycle_weight measure steps)
    ≤ℤ (ratio.num *ℤ pos (cycle_count measure steps))
IsRaise measure ratio steps (Value value) = IsRaisedTo measure ratio steps value
IsRaise measure ratio steps Never = NeverCounts measure steps
