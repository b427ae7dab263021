-- The words that the contracts of this crate have in common.
pub use Rattle.critical_cycle.specs.CyclePlaces.{AreWithin}
pub use Rattle.critical_cycle.specs.Floors.{IsSmallFloor}
pub use Rattle.cts_model.specs.Vocabulary.{JoinsMoreThan, IsLoop, Satisfies, AreSmallConstraints}
pub use Rattle.gate_order.specs.LevelParts.{IsLevelsOf}
pub use Rattle.path_delays.specs.JoinedPairs.{ShowsTooMany}
pub use Rattle.corners.specs.CommonPeriods.{HasNoCommonPeriod}
pub use Rattle.corners.specs.CornerConstraints.{AreCommonConstraints, AreConstraintsBy, IsCombined, IsGreatestOf}
pub use Rattle.corners.specs.CornerLists.{AreCorners}
pub use Rattle.corners.specs.CornerOutcomes.{HasLowestFirst, HasSmallCommonTimes, IsCornersOutcome, IsNeverCommon}
pub use Rattle.corners.specs.GreatestWeights.{IsCombinedAt}
pub use Rattle.corners.specs.Inclusions.{IsIncludedAt}
pub use Rattle.corners.specs.NamedPlaces.{AreNamedAt}
pub use Rattle.corners.specs.Types.{Constraint}
