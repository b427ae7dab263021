-- The words that the proofs of this crate have in common.
pub use Rattle.std.proofs.Common.{◌≡◌, not, ◌||◌, ◌&&◌, Bool, true, false, List, [], ◌∷◌, map, cond, Option, Some, None, is_some, refl, sym, ap, ◌∙◌, subst, true≢false, codes, ◌++◌, option_map, option_to_list, ◌<◌, ◌≤◌, ℕ, suc, zero, nat_le, length, Result, Ok, Err, arith, fold, ◌==◌, ◌↔◌, ◌+◌, ◌-◌, ◌^◌, ℤ, pos, negsuc, ◌≤ℤ◌, ◌<ℤ◌, nat_abs, IsTrue, get_or, decimal, append-nil, drop, string_bytes, String, Global, ap₂, ◌*◌, if◌then◌else◌, take, length-append}
pub use Rattle.std.proofs.lemmas.Bool.{leb-true, lt-leb, ne_eqb}
pub use Rattle.std.proofs.lemmas.List.{append_assoc, length-map, take_all, take-append-drop, take-map, drop-map, map-append}
pub use Rattle.std.proofs.lemmas.List.Elements.{All-head, All-tail, All-cons, All-nil}
pub use Rattle.std.proofs.lemmas.List.Folds.{list_any-append, Any-from_list_any, list_any_at}
pub use Rattle.std.proofs.lemmas.List.Sorted.{IsPermutation-refl, IsPermutation-sym, IsPermutation-cons, IsPermutation-trans, IsPermutation-append_right, IsPermutation-middle, IsPermutation-map, Contains-permutation, list_any-IsPermutation, length_permutation, All-permutation}
pub use Rattle.std.proofs.lemmas.Map.Keys.{IsDistinct-IsPermutation, IsDistinct-cons, IsDistinct-head, IsDistinct-tail}
pub use Rattle.std.proofs.lemmas.Slice.Eq.{bytes_eq-Decides}
pub use Rattle.std.specs.Cmp.Lexicographic.{nat_list_eq_equiv}
unfoldable pub use Rattle.std.specs.List.{IsDistinct}
pub use Rattle.std.specs.List.{All, AllByRecursion, list_all, list_any, range_with_len}
pub use Rattle.std.specs.List.Sorted.{IsPermutation}
pub use Rattle.std.specs.Map.{lookup, keys_of}
pub use Rattle.std.specs.Str.{bytes_eq, all_ascii_digits}
pub use Rattle.clap.proofs.TakesLemmas.{leaf_takes, passed_up}
pub use Rattle.clap.specs.Lexer.{long_of, short_of}
pub use Rattle.clap.specs.Simple.{App, Shape, argument_words, built, is_simple, label_of, matches_of, filled, new_rule}
unfoldable pub use Rattle.clap.specs.Takes.{walk_passes}
pub use Rattle.clap.specs.Takes.{is_given, is_valid, takes, default_passes, level_passes, settle_passes, turn_passes}
unfoldable pub use Rattle.clap.specs.Walk.{walked}
pub use Rattle.clap.specs.Walk.{Row, Rule, arg_by_id, arg_by_long, rows_of, first_of, nothing_held, rows_after, Held, Text, Walk, option, at_row, default_rows, has_row, more_values, reading_by, settled, walk, walk_from, with_default}
pub use Rattle.clap.specs.Words.{found_of, new_app, with_rule, app_of}
pub use Rattle.command_line.specs.CommandTable.{Word, option_word, value_kind, is_required, form_name, choices_of, command_form, form_named, table_bounds, takes_tables}
unfoldable pub use Rattle.command_line.specs.Commands.{is_period, spells_quotient}
pub use Rattle.command_line.specs.Commands.{Given, IsTaken, is_value, is_taken, is_file_name, option_words, listed_one, listed, numeral_value, is_number_within, command_name, values_of, options_of, tables_of, are_tables, HasValidTables, HasValidValues, IsCommand, IsSame}
pub use Rattle.command_line.specs.Parsers.{long_name, parser_for, rule_for}
unfoldable pub use Rattle.command_line.specs.PlainWords.{has_option, are_options}
pub use Rattle.command_line.specs.PlainWords.{has_required, row_values, IsPlainHead, are_plain, before_tables, tables_among, has_values, IsPlain, is_option}
pub use Rattle.command_line.specs.declared.table.Choice.{Choice}
pub use Rattle.command_line.specs.declared.table.Form.{Form}
pub use Rattle.command_line.specs.declared.table.Form.TheVariants.{Zero, Schedule, Synth, Check, Demo, Margin, Embed, Moves, Corners}
