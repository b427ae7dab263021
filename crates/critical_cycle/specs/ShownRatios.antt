-- What the search for the greatest ratio has shown so far.
use Rattle.std.specs.Prelude.{◌≡◌, ◌+◌, ◌*◌, ◌/◌, ℕ, ℤ, ◌-ℤ◌, ◌*ℤ◌, ◌<ℤ◌, List, nat_abs}
use Rattle.cts_base.specs.declared.fraction.Fraction.{Fraction}
use Rattle.cts_model.specs.declared.constraint.Constraint.{Constraint}
use Rattle.critical_cycle.specs.CyclePlaces.{AreWithin, constraints_at}
use Rattle.critical_cycle.specs.RatioSizes.{most_weight}
use Rattle.critical_cycle.specs.Measures.{CanTry, ForbidsRatios, SatisfiesRatio, ShowsRatio}
use Rattle.critical_cycle.specs.declared.measure.Measure.{Measure}
use Rattle.critical_cycle.specs.declared.shown.Shown.{Shown}
use Rattle.critical_cycle.specs.declared.shown.Shown.TheVariants.{First, Value, Never}

-- a cycle at these places shows the value, which is above the first ratio
pub record IsValueShown (measure : Measure) (constraints : List Constraint) (first : Fraction)
    (cycle : List ℕ) (value : Fraction) : Type 0 where
  pub within : AreWithin constraints cycle
  pub shows : ShowsRatio measure (constraints_at constraints cycle) value
  pub above : (first.num *ℤ value.den) <ℤ (value.num *ℤ first.den)
  pub valid : CanTry measure value

-- a cycle at these places forbids every ratio
pub record IsNeverShown (measure : Measure) (constraints : List Constraint)
    (cycle : List ℕ) : Type 0 where
  pub within : AreWithin constraints cycle
  pub forbids : ForbidsRatios measure (constraints_at constraints cycle)

-- the cycle shows what is said to be shown
abbrev pub IsShown : Measure → List Constraint → (first : Fraction) → (cycle : List ℕ) → Shown
    → Type 0
IsShown measure constraints first cycle First = Unit {0}
IsShown measure constraints first cycle (Value value) =
    IsValueShown measure constraints first cycle value
IsShown measure constraints first cycle Never = IsNeverShown measure constraints cycle

-- the greatest ratio shown
abbrev pub IsGreatestShown : (first : Fraction) → Shown → (ratio : Fraction) → Type 0
IsGreatestShown first First ratio = ratio ≡ first
IsGreatestShown first (Value value) ratio = ratio ≡ value
IsGreatestShown first Never ratio = ⊥

-- that no ratio is enough is shown
abbrev pub IsNeverAtAll : Shown → Type 0
IsNeverAtAll First = ⊥
IsNeverAtAll (Value value) = ⊥
IsNeverAtAll Never = Unit {0}

-- some arrivals satisfy the constraints at the greatest ratio shown, or none is enough
abbrev pub IsSettled : Measure → List Constraint → (first : Fraction) → Shown → Type 0
IsSettled measure constraints first First =
    (arrival : ℕ → ℤ) × SatisfiesRatio measure constraints first arrival
IsSettled measure constraints first (Value value) =
    (arrival : ℕ → ℤ) × SatisfiesRatio measure constraints value arrival
IsSettled measure constraints first Never = Unit {0}

-- how far a fraction is below the greatest, in steps smaller than two fractions of small
-- denominators are apart
abbrev pub steps_below : (most numerator denominator : ℤ) → ℕ
steps_below most numerator denominator =
    (4097 * 4097 * nat_abs ((most *ℤ denominator) -ℤ numerator)) / nat_abs denominator

-- how many raises there may still be
abbrev pub raises_left : Measure → (first : Fraction) → Shown → ℕ
raises_left measure first First =
    1 + steps_below (most_weight measure.scale measure.period) first.num first.den
raises_left measure first (Value value) =
    1 + steps_below (most_weight measure.scale measure.period) value.num value.den
raises_left measure first Never = 0
