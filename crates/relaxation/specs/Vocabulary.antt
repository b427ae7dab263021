-- The words that the contracts of this crate have in common.
pub use Rattle.cts_model.specs.Vocabulary.{IsBelow, IsSmallConstraint}
pub use Rattle.relaxation.specs.Gains.{AdmitsGains, SatisfiesGains, gain_of}
pub use Rattle.relaxation.specs.Parents.{ReachesUp, value_of}
pub use Rattle.relaxation.specs.Relaxing.{GivesNoMore, IsOffer, IsFarUp, IsFromZero, IsRelaxed}
pub use Rattle.relaxation.specs.Rises.{AreRaised}
pub use Rattle.relaxation.specs.Rounds.{AreSameRounds}
pub use Rattle.relaxation.specs.Sweeps.{IsSweep}
