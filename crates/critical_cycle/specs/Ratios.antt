-- The greatest ratio of the cycles of a list, at or above a first one, and the cycle that shows it.
-- It is the least at which some arrivals satisfy the list: Lawler, "Combinatorial Optimization",
-- 1976, section 3.13.
use Rattle.std.specs.Prelude.{ℕ, ℤ, ◌*ℤ◌, ◌<ℤ◌, List}
use Rattle.cts_base.specs.declared.fraction.Fraction.{Fraction}
use Rattle.cts_model.specs.declared.constraint.Constraint.{Constraint}
use Rattle.critical_cycle.specs.CyclePlaces.{AreWithin, IsFromLowest, constraints_at}
use Rattle.critical_cycle.specs.Measures.{CanTry, ForbidsRatios, SatisfiesRatio, ShowsRatio}
use Rattle.critical_cycle.specs.declared.measure.Measure.{Measure}
use Rattle.critical_cycle.specs.declared.ratio.Ratio.{Ratio}
use Rattle.critical_cycle.specs.declared.ratio.Ratio.TheVariants.{Cycle, First, Never}

-- some arrivals satisfy the constraints at the value, which is above the first ratio, and the cycle
-- at these places shows it
pub record IsShownRatio (measure : Measure) (constraints : List Constraint) (first : Fraction)
    (value : Fraction) (cycle : List ℕ) : Type 0 where
  pub satisfied : (arrival : ℕ → ℤ) × SatisfiesRatio measure constraints value arrival
  pub above : (first.num *ℤ value.den) <ℤ (value.num *ℤ first.den)
  pub small : CanTry measure value
  pub within : AreWithin constraints cycle
  pub shows : ShowsRatio measure (constraints_at constraints cycle) value
  pub lowest : IsFromLowest (constraints_at constraints cycle)

-- the cycle at these places forbids every ratio
pub record IsForbiddenBy (measure : Measure) (constraints : List Constraint)
    (cycle : List ℕ) : Type 0 where
  pub within : AreWithin constraints cycle
  pub forbids : ForbidsRatios measure (constraints_at constraints cycle)
  pub lowest : IsFromLowest (constraints_at constraints cycle)

-- the answer is right: the ratio that a cycle shows, or the first one, or a cycle that forbids all
abbrev pub IsRatioOf : Measure → List Constraint → (first : Fraction) → Ratio → Type 0
IsRatioOf measure constraints first (Cycle value cycle) =
    IsShownRatio measure constraints first value cycle
IsRatioOf measure constraints first First =
    (arrival : ℕ → ℤ) × SatisfiesRatio measure constraints first arrival
IsRatioOf measure constraints first (Never cycle) = IsForbiddenBy measure constraints cycle
