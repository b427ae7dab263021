-- The parser for the options of a command, as `clap` describes one.
use Rattle.std.specs.Prelude.{drop, take, Some, fold, if◌then◌else◌, codes}
use Rattle.std.specs.Str.{bytes_eq}
use Rattle.clap.specs.Words.{App, Rule, new_app, new_rule, with_rule}
use Rattle.clap.specs.declared.builder.action.ArgAction.TheVariants.{Set}
use Rattle.command_line.specs.declared.table.Form.{Form}
use Rattle.command_line.specs.declared.table.Choice.{Choice}
use Rattle.command_line.specs.CommandTable.{Word, option_word, is_required, form_name, choices_of}

-- an option's word without the two hyphens before
abbrev pub long_name : Word → Word
long_name option = if bytes_eq (take 2 option) (codes "--") then drop 2 option else option

-- the argument for an option, which takes one value
abbrev pub rule_for : Choice → Rule
rule_for choice = record (new_rule (option_word choice)) {
  long = Some (long_name (option_word choice));
  required = is_required choice;
  action = Some Set;
}

-- the parser for a command's options
abbrev pub parser_for : Form → App
parser_for form =
    fold (λ app choice. with_rule app (rule_for choice)) (new_app (form_name form))
    (choices_of form)
