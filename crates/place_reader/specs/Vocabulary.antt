-- The words that the contracts of this crate have in common.
pub use Rattle.std.specs.Option.{option_map}
pub use Rattle.std.specs.Str.{str_eq_ignore_ascii_case}
pub use Rattle.cts_base.specs.LineFormats.{IsFaultOf, IsToldBy}
pub use Rattle.cts_model.specs.Vocabulary.{entry_of_words, is_header, has_words, words_in, y_len, HasNoHost, begins_with, is_orientation, part_and, is_remark, is_oriented, is_tail}
pub use Rattle.cts_model.specs.declared.place.Point.{Point}
pub use Rattle.place_reader.specs.Names.{AreSameNames}
pub use Rattle.place_reader.specs.Placements.{is_among, register_nodes, wanted_nodes, placed_at, place_entry_fault, place_line_fault, places_in, points_from}
pub use Rattle.place_reader.specs.View.{is_written, said_by, node_said}
