-- The words that the contracts of this crate have in common.
pub use Rattle.cts_model.specs.Vocabulary.{IsBelow, IsMultipleOf, rotated, rotated_distance, AreTreeSinks, IsTreeSink, IsTopology}
pub use Rattle.cts_model.specs.declared.place.Sink.{Sink}
pub use Rattle.merge_up.specs.Merging.{IsMerged}
pub use Rattle.merge_up.specs.Works.{IsFit, IsSettled}
pub use Rattle.place_down.specs.Descents.{CanSettle, IsSettledBelow, StandFrom, StaysAbove}
pub use Rattle.place_down.specs.Sources.{IsTop}
pub use Rattle.place_down.specs.Trees.{IsTreeSource, HasTreeNumbers, IsPlacedTree, StaysMerged}
