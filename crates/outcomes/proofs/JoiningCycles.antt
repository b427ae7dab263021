-- Where constraints of a circuit lead from a register back to it, a path joins two registers.
use Rattle.std.proofs.Common.{ℕ, ℤ, Bool, true, false, List, [], ◌∷◌}
use Rattle.std.specs.Prelude.{MatchBool}
use Rattle.std.specs.List.{All}
use Rattle.std.proofs.lemmas.List.Elements.{All-head}
use Rattle.outcomes.specs.Types.{Circuit, Constraint, Tech}
use Rattle.cts_model.specs.Vocabulary.{IsConstraintOf, IsHoldConstraint, IsSetupConstraint, IsCycle}
use Rattle.outcomes.specs.CircuitMargins.{HasNoPath}

-- a constraint of a circuit has one
constraint_joins : (circuit : Circuit) (tech : Tech) (setup : Bool) (tail head : ℕ) (weight : ℤ)
    → MatchBool setup (IsSetupConstraint circuit tech tail head weight)
    (IsHoldConstraint circuit tech head tail weight) → HasNoPath circuit → ⊥
constraint_joins circuit tech true tail head weight is none = none tail head is.path is.joins
constraint_joins circuit tech false tail head weight is none = none head tail is.path is.joins

-- so does a cycle of them
pub cycle_joins : (circuit : Circuit) (tech : Tech) (cycle : List Constraint)
    → All (IsConstraintOf circuit tech) cycle → IsCycle cycle → HasNoPath circuit → ⊥
cycle_joins circuit tech [] each is none = is.closed
cycle_joins circuit tech (constraint ∷ cycle) each is none =
    constraint_joins circuit tech constraint.setup constraint.tail constraint.head
    constraint.weight (All-head (IsConstraintOf circuit tech) constraint cycle each) none
