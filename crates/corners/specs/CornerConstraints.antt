-- The constraints of one circuit by the table of each corner, and the combined list of them.
-- Fishburn, "Clock Skew Optimization", 1990.
use Rattle.std.specs.Prelude.{◌≡◌, ◌<◌, ◌↔◌, ℕ, ℤ, ◌≤ℤ◌, List, length, All, Any}
use Rattle.corners.specs.Types.{Circuit, Constraint, Tech, PairDelay}
use Rattle.cts_model.specs.Vocabulary.{AreSmallConstraints, IsConstraintOf, Satisfies, ListsPairs, Meets}
use Rattle.constraints.specs.PairConstraints.{constraints_of_pairs}
use Rattle.corners.specs.declared.fold.Combined.{Combined}
use Rattle.corners.specs.CommonPeriods.{MeetsEach}
use Rattle.corners.specs.CornerCycles.{AreOfCorners}
use Rattle.corners.specs.GreatestWeights.{IsCombinedAt}

-- the constraints of all joined pairs, in the order of the pairs
pub record AreConstraintsBy (circuit : Circuit) (tech : Tech)
    (constraints : List Constraint) : Type 0 where
  pub pairs : List PairDelay
  pub lists : ListsPairs circuit tech pairs
  pub of_pairs : constraints ≡ constraints_of_pairs tech pairs
  pub each : All (IsConstraintOf circuit tech) constraints
  pub meets : (scale : ℕ) (period : ℤ) (arrival : ℕ → ℤ)
      → Satisfies constraints scale period arrival ↔ Meets circuit tech scale period arrival
  pub small : AreSmallConstraints (length circuit.registers) constraints

-- at each place stands the constraint of the first list with the greatest weight there
pub record IsCombined (lists : List (List Constraint)) (combined : Combined) : Type 0 where
  pub lengths : All (λ list. length list ≡ length combined.constraints) lists
  pub named : length combined.corner ≡ length combined.constraints
  pub each : (place : ℕ) → place < length combined.constraints
      → IsCombinedAt lists combined.constraints combined.corner place

-- constraints, each of some corner, and whoever satisfies them meets the period in each corner
pub record AreCommonConstraints (circuit : Circuit) (techs : List Tech)
    (combined : Combined) : Type 0 where
  pub of_corners : AreOfCorners circuit techs combined.constraints combined.corner
  pub meets : (scale : ℕ) (period : ℤ) (arrival : ℕ → ℤ)
      → Satisfies combined.constraints scale period arrival
      ↔ MeetsEach circuit techs scale period arrival
  pub small : AreSmallConstraints (length circuit.registers) combined.constraints

-- the number is one of the floors, and none is greater
pub record IsGreatestOf (techs : List Tech) (floor : ℤ) : Type 0 where
  pub a_floor : Any (λ tech. tech.floor ≡ floor) techs
  pub greatest : All (λ tech. tech.floor ≤ℤ floor) techs
