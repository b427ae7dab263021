-- Rounds in which values rise, also along parents.
use Rattle.std.specs.Prelude.{◌≡◌, ℤ, List, length}
use Rattle.cts_model.specs.declared.constraint.Constraint.{Constraint}
use Rattle.relaxation.specs.declared.gains.Gains.{Gains}
use Rattle.relaxation.specs.declared.rounds.Rounds.{Rounds}
use Rattle.relaxation.specs.Rises.{AreRaised}

-- the rounds are over the same constraints between as many registers
pub record AreSameRounds (old new : Rounds) : Type 0 where
  pub constraints : new.relaxation.constraints.now ≡ old.relaxation.constraints.now
  pub registers : length new.relaxation.values.items ≡ length old.relaxation.values.items

-- and the values have risen further from where they began
pub record HasRisen (gains : Gains) (old new : Rounds) : Type 0 where
  pub same : AreSameRounds old new
  pub raised : (constraints : List Constraint) (begun : List ℤ)
      → old.relaxation.constraints.now ≡ constraints
      → AreRaised constraints gains begun old.relaxation.values.items
      → AreRaised constraints gains begun new.relaxation.values.items
