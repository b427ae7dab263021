-- What is shown is so in one way.
use Rattle.std.specs.Prelude.{ℕ, List, [], ◌∷◌}
use Rattle.std.specs.Coded.{×_prop}
use Rattle.std.proofs.Props.{props}
use Rattle.cts_base.specs.declared.fraction.Fraction.{Fraction}
use Rattle.cts_model.specs.declared.constraint.Constraint.{Constraint}
use Rattle.cts_model.specs.Vocabulary.{Leads}
use Rattle.critical_cycle.specs.ShownRatios.{IsShown}
use Rattle.critical_cycle.specs.declared.measure.Measure.{Measure}
use Rattle.critical_cycle.specs.declared.shown.Shown.{Shown}
use Rattle.critical_cycle.specs.declared.shown.Shown.TheVariants.{First, Value, Never}

leads_prop : (from : ℕ) (constraints : List Constraint) (to : ℕ) → IsProp
    (Leads from constraints to)
leads_prop from [] to = hlevel props
leads_prop from (constraint ∷ constraints) to =
    ×_prop (hlevel props) (leads_prop constraint.head constraints to)

pub shown_prop : (measure : Measure) (constraints : List Constraint) (first : Fraction)
    (cycle : List ℕ) (shown : Shown) → IsProp (IsShown measure constraints first cycle shown)
shown_prop measure constraints first cycle First = hlevel props
shown_prop measure constraints first cycle (Value value) = hlevel (props, leads_prop)
shown_prop measure constraints first cycle Never = hlevel (props, leads_prop)
