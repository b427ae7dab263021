-- The constraints of tight leads.
use Rattle.std.specs.Prelude.{◌≡◌, ◌↔◌, ℕ, Bool, IsTrue, List, filter_map, Option, None, Some}
use Rattle.cts_model.specs.declared.circuit.Circuit.{Circuit}
use Rattle.cts_model.specs.declared.constraint.Constraint.{Constraint}
use Rattle.cts_model.specs.declared.schedule.Lead.{Lead}
use Rattle.cts_model.specs.declared.schedule.Lead.TheVariants.{Zero, Tight}
use Rattle.cts_model.specs.declared.tech.Tech.{Tech}
use Rattle.cts_model.specs.Vocabulary.{HasSmallWeight, IsBetweenRegisters, IsConstraintOf}

-- the constraint of a lead, if it has one
abbrev pub constraint_of : Lead → Option Constraint
constraint_of Zero = None
constraint_of (Tight depth constraint) = Some constraint

-- the constraints of those leads that have one
abbrev pub tight_constraints : List Lead → List Constraint
tight_constraints leads = filter_map constraint_of leads

-- the test says whether the lead's constraint is one of the circuit
abbrev pub IsTested : Circuit → Tech → Lead → (given : Bool) → Type 0
IsTested circuit tech Zero given = Unit {0}
IsTested circuit tech (Tight depth constraint) given =
    IsTrue given ↔ IsConstraintOf circuit tech constraint

-- a small constraint between registers that have leads and arrivals
pub record FitsLeads (leads arrivals : ℕ) (constraint : Constraint) : Type 0 where
  pub among : IsBetweenRegisters leads constraint
  pub all : leads ≡ arrivals
  pub small : HasSmallWeight constraint
