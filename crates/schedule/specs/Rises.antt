-- Arrivals that are raised in place until constraints hold.
use Rattle.std.specs.Prelude.{ℤ, List, length}
use Rattle.cts_model.specs.declared.constraint.Constraint.{Constraint}
use Rattle.cts_model.specs.Vocabulary.{arrival_of, AreFromZero}
use Rattle.relaxation.specs.declared.gains.Gains.{Gains}
use Rattle.schedule.specs.Gains.{AreLeastBy}
use Rattle.schedule.specs.Schedules.{CanSchedule}

-- the arrivals are from 0 on, and no later than any that satisfy the constraints
pub record IsRising (constraints : List Constraint) (gains : Gains) (at : List ℤ) : Type 0 where
  pub from_zero : AreFromZero (length at) (arrival_of at)
  pub least : AreLeastBy constraints gains at

-- arrivals that rise to what the constraints admit
pub record CanRaise (constraints : List Constraint) (gains : Gains) (at : List ℤ) : Type 0 where
  pub can : CanSchedule constraints gains (length at)
  pub rising : IsRising constraints gains at
