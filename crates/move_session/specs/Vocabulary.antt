-- The words that the contracts of this crate have in common.
pub use Rattle.cts_base.specs.LineFormats.{IsToldBy}
pub use Rattle.cts_model.specs.Vocabulary.{number_of, IsLeastWire, RealisesOffsets, embedding_of, total_wire, IsBelow, IsUvBelow, IsUvMultipleOf, AreTreeSinks, IsTreeSink, IsTopology}
pub use Rattle.merge_up.specs.Merging.{IsMerged, KeepsAllEnds, KeepsEnds}
pub use Rattle.merge_up.specs.Works.{IsFit}
pub use Rattle.place_down.specs.Trees.{IsTreeSource, reach_in}
pub use Rattle.name_set.specs.RegisterNames.{register_names}
pub use Rattle.move_session.specs.MergesAbove.{IsMergedBeside, IsStep, merges_above}
pub use Rattle.move_session.specs.Moves.{moves_line_fault, move_of, told_at, moves_in}
pub use Rattle.move_session.specs.Sessions.{StandsFor, moved_sink, moved_sinks}
