-- The words that the contracts of this crate have in common.
pub use Rattle.cts_model.specs.Vocabulary.{IsBelow, AreSmallConstraints, IsMarginPeriod}
pub use Rattle.critical_cycle.specs.RatioSizes.{IsSmallRatio}
pub use Rattle.safety_margin.specs.Answers.{HasSmallSparing, IsMarginOf, IsUnbounded}
pub use Rattle.safety_margin.specs.Margins.{HasNoCycle, Spares}
pub use Rattle.safety_margin.specs.RatioMargins.{IsBelowAll, IsMarginAt, IsMeasureAt}
pub use Rattle.safety_margin.specs.Sharing.{AreGainsAt, CanSpare, IsShare, IsSmallMargin}
pub use Rattle.safety_margin.specs.SparingSchedules.{IsSmallSparing, IsSparingSchedule}
