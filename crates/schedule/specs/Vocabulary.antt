-- The words that the contracts of this crate have in common.
pub use Rattle.cts_model.specs.Vocabulary.{IsBelow, AreSmallConstraints, EachLead, depth_of, lead_at, IsSmallPeriod, IsSmallConstraint, IsTight}
pub use Rattle.relaxation.specs.Gains.{AdmitsGains}
pub use Rattle.schedule.specs.Gains.{AreGainsOf, AreLeastArrivalsBy}
pub use Rattle.schedule.specs.Given.{IsGiven}
pub use Rattle.schedule.specs.Rises.{CanRaise}
pub use Rattle.schedule.specs.Schedules.{AreWithinWeights, IsAdmittedBy, IsLeastScheduleOf}
