-- Arrivals at a period, and constraints between their registers.
use Rattle.std.specs.Prelude.{ℤ, List, length}
use Rattle.cts_base.specs.declared.fraction.Fraction.{Fraction}
use Rattle.cts_model.specs.declared.constraint.Constraint.{Constraint}
use Rattle.cts_model.specs.Vocabulary.{AreSmallConstraints, arrival_of, AreFromZero, IsSmallPeriod}

-- what is known of the constraints, the period and the arrivals
pub record IsGiven (constraints : List Constraint) (period : Fraction) (at : List ℤ) : Type 0 where
  pub small : AreSmallConstraints (length at) constraints
  pub range : IsSmallPeriod period
  pub from_zero : AreFromZero (length at) (arrival_of at)
