-- The words of a command line, and the command that they mean.
use Rattle.std.specs.Prelude.{◌≡◌, ◌==◌, ◌&&◌, ◌^◌, ℕ, pos, nat_le, Bool, false, not, IsTrue, List, [], ◌∷◌, ◌++◌, length, Option, Some, option_map, option_to_list, map, string_bytes}
use Rattle.std.specs.List.{All, flat_map, list_any, range_with_len, list_all}
use Rattle.std.specs.List.Sorted.{IsPermutation}
use Rattle.std.specs.Str.{all_ascii_digits, bytes_eq}
use Rattle.std.specs.Str.Parse.{digits_value}
use Rattle.cts_base.specs.Fractions.{quotient_text}
use Rattle.command_line.specs.declared.command.Command.{Command}
use Rattle.command_line.specs.declared.command.Command.TheVariants.{Zero, Period, Schedule, Synth, Check, Demo, Margin, Embed, Moves, Corners}
use Rattle.command_line.specs.declared.table.Choice.{Choice}
use Rattle.command_line.specs.declared.table.ValueKind.{ValueKind}
use Rattle.command_line.specs.declared.table.ValueKind.TheVariants as kind
use Rattle.command_line.specs.declared.table.Form.{Form}
use Rattle.command_line.specs.CommandTable.{Word, option_word, value_kind, command_form, form_name, choices_of, table_bounds}

-- an option and its value
abbrev pub Given : Type 0
Given = Word × Word

-- the values of a command's options, in the order of its row
abbrev pub values_of : Command → List (Option Word)
values_of (Zero bench tech) = Some bench.now ∷ option_map (λ word. word.now) tech ∷ []
values_of (Period bench tech) = Some bench.now ∷ Some tech.now ∷ []
values_of (Schedule bench tech) = Some bench.now ∷ Some tech.now ∷ []
values_of (Synth bench tech pl) = Some bench.now ∷ Some tech.now ∷ Some pl.now ∷ []
values_of (Check bench tech pl report) =
    Some bench.now ∷ Some tech.now ∷ Some pl.now ∷ Some report.now ∷ []
values_of (Demo registers seed) = Some registers.now ∷ Some seed.now ∷ []
values_of (Margin bench tech period) = Some bench.now ∷ Some tech.now ∷ Some period.now ∷ []
values_of (Embed bench tech pl topology) =
    Some bench.now ∷ Some tech.now ∷ Some pl.now ∷ Some topology.now ∷ []
values_of (Moves bench tech pl moves) =
    Some bench.now ∷ Some tech.now ∷ Some pl.now ∷ Some moves.now ∷ []
values_of (Corners bench tables) = Some bench.now ∷ []

-- the delay tables that stand after a command's options
abbrev pub tables_of : Command → List Word
tables_of (Corners bench tables) = map string_bytes tables.now
tables_of command = []

-- an option with its value, if it has one
abbrev pub listed_one : Choice → Option Word → List Given
listed_one choice value = option_to_list (option_map (λ word. (option_word choice, word)) value)

-- options with those values that they have
abbrev pub listed : List Choice → List (Option Word) → List Given
listed (choice ∷ choices) (value ∷ values) = listed_one choice value ++ listed choices values
listed _ _ = []

-- the name of a command
abbrev pub command_name : Command → Word
command_name command = form_name (command_form command)

-- the options of a command, with their values
abbrev pub options_of : Command → List Given
options_of command = listed (choices_of (command_form command)) (values_of command)

-- a file's name is one or more bytes, of which the first is no `-`
abbrev pub is_file_name : Word → Bool
is_file_name [] = false
is_file_name (byte ∷ bytes) = not (byte == 45)

-- the number that decimal digits stand for; leading zeros are allowed
abbrev pub numeral_value : Word → ℕ
numeral_value digits = digits_value 10 digits

-- one to four digits, for a number within these bounds
abbrev pub is_number_within : (least greatest : ℕ) → Word → Bool
is_number_within least greatest word =
    nat_le 1 (length word) && (nat_le (length word) 4 && (all_ascii_digits word
    && (nat_le least (numeral_value word) && nat_le (numeral_value word) greatest)))

-- the spelling in lowest terms of some number below the one bound over some number from 1 up to the
-- other
unfoldable pub spells_quotient : (above below : ℕ) → Word → Bool
spells_quotient above below word = list_any (λ num. list_any (λ den.
    bytes_eq word (quotient_text (pos num) (pos den))) (range_with_len 1 below))
    (range_with_len 0 above)

-- a period that `margin` takes: a fraction from 0 on, its numerator below 10^15 and its denominator
-- at most 10,000
unfoldable pub is_period : Word → Bool
is_period word = spells_quotient (10 ^ 15) (10 ^ 4) word

-- what a value may be: a file's name, a number of registers, a seed or a period
abbrev pub is_value : ValueKind → Word → Bool
is_value kind.File value = is_file_name value
is_value kind.Registers value = is_number_within 2 1000 value
is_value kind.Seed value = is_number_within 0 999 value
is_value kind.Period value = is_period value

-- the word is one of these options, which takes this value
abbrev pub is_taken : List Choice → (option value : Word) → Bool
is_taken choices option value =
    list_any (λ choice. bytes_eq (option_word choice) option && is_value
    (value_kind choice) value) choices

-- the option is one of these, and takes its value
abbrev pub IsTaken : List Choice → Given → Type 0
IsTaken choices one = IsTrue (is_taken choices one.0 one.1)

-- so it is with each option of a command
abbrev pub HasValidValues : Command → Type 0
HasValidValues command = All (IsTaken (choices_of (command_form command))) (options_of command)

-- the words are as many files' names as a command of this form takes delay tables
abbrev pub are_tables : Form → List Word → Bool
are_tables form tables = nat_le (table_bounds form).0 (length tables)
    && (nat_le (length tables) (table_bounds form).1 && list_all is_file_name tables)

-- so are those of a command
abbrev pub HasValidTables : Command → Type 0
HasValidTables command = IsTrue (are_tables (command_form command) (tables_of command))

-- options as words: each is followed by its value
abbrev pub option_words : List Given → List Word
option_words given = flat_map (λ one. one.0 ∷ one.1 ∷ []) given

-- the words are the name of the command, after it its options in some order, and then its tables
pub record IsCommand (words : List Word) (command : Command) : Type 0 where
  pub given : List Given
  pub words_are : words ≡ command_name command ∷ (option_words given ++ tables_of command)
  pub options : IsPermutation (options_of command) given
  pub values : HasValidValues command
  pub tables : HasValidTables command

-- the commands have one name, the same options with the same values, and the same tables
pub record IsSame (command other : Command) : Type 0 where
  pub name : command_name command ≡ command_name other
  pub options : options_of command ≡ options_of other
  pub tables : tables_of command ≡ tables_of other
