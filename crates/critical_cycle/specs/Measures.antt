-- Ratios of cycles: the sum of their weights over that of their counts, in a measure. Dantzig,
-- Blattner and Rao, "Finding a cycle in a graph with minimum cost to time ratio", 1967.
use Rattle.std.specs.Prelude.{◌≡◌, ◌≤◌, ℕ, ℤ, pos, ◌+ℤ◌, ◌-ℤ◌, ◌*ℤ◌, ◌≤ℤ◌, ◌<ℤ◌, if◌then◌else◌, List, All, length}
use Rattle.cts_base.specs.declared.fraction.Fraction.{Fraction}
use Rattle.cts_model.specs.declared.constraint.Constraint.{Constraint}
use Rattle.cts_model.specs.Vocabulary.{count_of, IsCycle, total_count, total_weight}
use Rattle.critical_cycle.specs.RatioSizes.{IsSmallRatio}
use Rattle.critical_cycle.specs.declared.measure.Measure.{Measure}
use Rattle.relaxation.specs.declared.gains.Gains.{Gains}

-- what a constraint weighs
abbrev pub measured_weight : Measure → Constraint → ℤ
measured_weight measure constraint = (measure.scale *ℤ constraint.weight)
    -ℤ (measure.period *ℤ pos (count_of constraint))

-- how often it counts
abbrev pub measured_count : Measure → Constraint → ℕ
measured_count measure constraint = if measure.every then 1 else count_of constraint

-- the arrival at the head is late enough at this ratio; arrivals are over its denominator
abbrev pub IsSatisfiedAt : Measure → (ratio : Fraction) (arrival : ℕ → ℤ) → Constraint → Type 0
IsSatisfiedAt measure ratio arrival constraint =
    (arrival constraint.tail +ℤ (ratio.den *ℤ measured_weight measure constraint))
    ≤ℤ (arrival constraint.head +ℤ (ratio.num *ℤ pos (measured_count measure constraint)))

abbrev pub SatisfiesRatio : Measure → List Constraint → (ratio : Fraction) (arrival : ℕ → ℤ)
    → Type 0
SatisfiesRatio measure constraints ratio arrival =
    All (IsSatisfiedAt measure ratio arrival) constraints

-- what a cycle weighs, the sum of the weights
abbrev pub cycle_weight : Measure → List Constraint → ℤ
cycle_weight measure cycle = (measure.scale *ℤ total_weight cycle)
    -ℤ (measure.period *ℤ pos (total_count cycle))

-- and how often it counts
abbrev pub cycle_count : Measure → List Constraint → ℕ
cycle_count measure cycle = if measure.every then length cycle else total_count cycle

-- the cycle has this ratio
pub record ShowsRatio (measure : Measure) (cycle : List Constraint) (ratio : Fraction) : Type 0
  where
    pub is_cycle : IsCycle cycle
    pub counts : 1 ≤ cycle_count measure cycle
    pub value : (ratio.den *ℤ cycle_weight measure cycle)
        ≡ (ratio.num *ℤ pos (cycle_count measure cycle))

-- no ratio is enough for the cycle: it weighs more than 0 and never counts
pub record ForbidsRatios (measure : Measure) (cycle : List Constraint) : Type 0 where
  pub is_cycle : IsCycle cycle
  pub counts : cycle_count measure cycle ≡ 0
  pub weighs : pos 0 <ℤ cycle_weight measure cycle

-- the ratio is small enough to be tried
abbrev pub CanTry : Measure → Fraction → Type 0
CanTry measure ratio = IsSmallRatio measure.scale measure.period ratio.num ratio.den

-- the trial is that of the ratio
pub record IsTrialAt (measure : Measure) (ratio : Fraction) (trial : Gains) : Type 0 where
  pub scale_is : trial.scale ≡ ratio.den *ℤ measure.scale
  pub setup_is : trial.setup ≡ (ratio.den *ℤ measure.period) +ℤ ratio.num
  pub hold_is : trial.hold ≡ (if measure.every then ratio.num else pos 0)
