-- What the delays of all joined pairs ask of the arrivals of a circuit.
use Rattle.std.specs.Prelude.{◌↔◌, ℕ, ℤ, List, All}
use Rattle.cts_engine.specs.Types.{Circuit, Tech, PairDelay, Constraint}
use Rattle.cts_model.specs.Vocabulary.{IsPath, Meets, IsConstraintOf, Satisfies}
use Rattle.path_delays.specs.JoinedPairs.{IsDelayBetween}

-- constraints of the circuit, and whoever satisfies them meets the period over every path
pub record AreConstraintsOf (circuit : Circuit) (tech : Tech)
    (constraints : List Constraint) : Type 0 where
  pub each : All (IsConstraintOf circuit tech) constraints
  pub meets : (scale : ℕ) (period : ℤ) (arrival : ℕ → ℤ)
      → Satisfies constraints scale period arrival ↔ Meets circuit tech scale period arrival

-- the delays over all paths of each pair of registers that a path joins are small
abbrev pub HasSmallPairs : Circuit → Tech → Type 0
HasSmallPairs circuit tech = (from to : ℕ) (path : List ℕ) → IsPath circuit from to path
    → (pair : PairDelay) × IsDelayBetween circuit tech from to pair
