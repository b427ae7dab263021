-- The words that the contracts of this crate have in common.
pub use Rattle.std.specs.Char.{is_ascii_digit}
pub use Rattle.std.specs.Cmp.Lexicographic.{slice_cmp}
pub use Rattle.std.specs.List.{list_all, fold, flat_map, list_any}
pub use Rattle.std.specs.Option.{option_map, option_and_then}
pub use Rattle.std.specs.Ordering.{nat_cmp, is_lt}
pub use Rattle.std.specs.Str.{bytes_eq}
pub use Rattle.std.specs.Str.Parse.{digits_value}
pub use Rattle.cts_model.specs.Vocabulary.{place_of}
pub use Rattle.cts_model.specs.table.AcceptedTables.{IsDocument, IsDelayTable, AcceptsTable, GivesKinds, DenotesTable}
pub use Rattle.toml.specs.Data.{get_member, as_table}
pub use Rattle.toml.specs.View.{view, table_view}
pub use Rattle.delay_tables.specs.Keys.{texts, keys_of, section_of, form_of, need_of, key_of}
pub use Rattle.delay_tables.specs.Refusals.{Judges, IsUnread, RefusesTable, DenotesName}
pub use Rattle.delay_tables.specs.declared.fault.TechFault.{TechFault}
