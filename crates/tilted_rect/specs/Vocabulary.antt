-- The words that the contracts of this crate have in common.
pub use Rattle.std.specs.Int.{int_max, int_min}
pub use Rattle.cts_model.specs.declared.place.Sink.{Sink}
pub use Rattle.cts_model.specs.declared.place.Uv.{Uv}
pub use Rattle.cts_model.specs.Vocabulary.{IsDoubleReach, IsMultipleOf, IsTreeSink, IsUnion, IsUvBelow, IsUvMultipleOf, scaled}
pub use Rattle.tilted_rect.specs.ClusterSets.{IsCluster, cost_of}
pub use Rattle.tilted_rect.specs.Corners.{bound}
pub use Rattle.tilted_rect.specs.Extremes.{IsGrown}
pub use Rattle.tilted_rect.specs.Rects.{Holds, HoldBoth, IsNear, HasSides, CanGrowBy, gap_of, IsLeastDistance, clamped_into, IsNearest}
