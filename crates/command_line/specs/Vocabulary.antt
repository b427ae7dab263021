-- The words that the contracts of this crate have in common.
pub use Rattle.std.specs.Char.{is_ascii_digit}
pub use Rattle.std.specs.List.{list_all}
pub use Rattle.std.specs.Str.{bytes_eq}
pub use Rattle.clap.specs.Words.{app_of, rule_of, found_of, first_value}
pub use Rattle.cts_model.specs.Vocabulary.{IsMarginPeriod}
pub use Rattle.command_line.specs.CommandTable.{choices_of, command_form, is_required, takes_tables, forms, form_name, form_named, table_bounds, option_word}
pub use Rattle.command_line.specs.Commands.{values_of, tables_of, are_tables, IsCommand, is_file_name, is_number_within, is_period, is_value, is_taken}
pub use Rattle.command_line.specs.Parsers.{long_name, rule_for, parser_for}
pub use Rattle.command_line.specs.PlainWords.{has_values, row_values, value_in_row, IsPlain, has_option, is_option, are_options, has_required, are_plain, before_tables, tables_among}
pub use Rattle.command_line.specs.declared.command.Command.{Command}
pub use Rattle.command_line.specs.declared.table.Form.{Form}
