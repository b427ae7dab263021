-- The words that the contracts of this crate have in common.
pub use Rattle.cts_model.specs.Vocabulary.{AreTreeSinks, IsTopology, IsBelow, IsMultipleOf, IsTreeSink, IsUvBelow, IsUvMultipleOf, ShowsMerge, numbers_below}
pub use Rattle.cts_model.specs.declared.place.Point.{Point}
pub use Rattle.cts_model.specs.declared.place.Sink.{Sink}
pub use Rattle.cts_model.specs.declared.tree.Merge.{Merge}
pub use Rattle.tilted_rect.specs.Extremes.{HasExtremeSides, spread}
pub use Rattle.tilted_rect.specs.Rects.{Holds}
pub use Rattle.merge_up.specs.Distances.{IsFar}
pub use Rattle.merge_up.specs.Merging.{HoldsJoined, HoldsMerge, HoldsSinks, IsFresh, IsMerged, IsNodeSettled, IsRenewed, IsSinkSet, IsSourcePlaced, IsUnsettled, KeepsAllEnds, KeepsEnds, KeepsJoined}
pub use Rattle.merge_up.specs.Sides.{AreEnds, IsEnd, IsSoFar, extremes_of, pair_of, far_to, furthest_to}
pub use Rattle.merge_up.specs.Views.{cut}
pub use Rattle.merge_up.specs.Works.{IsFit, IsSettled}
