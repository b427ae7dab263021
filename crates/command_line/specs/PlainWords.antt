-- What the reader of a command line tests of its words.
use Rattle.std.specs.Prelude.{◌≡◌, ◌&&◌, ◌||◌, ◌*◌, ℕ, Bool, true, false, not, if◌then◌else◌, List, [], ◌∷◌, ◌++◌, length, take, drop, Option, is_some, option_and_then, slice_get, map}
use Rattle.std.specs.Str.{bytes_eq}
use Rattle.std.specs.List.{list_all}
use Rattle.command_line.specs.declared.table.Form.{Form}
use Rattle.command_line.specs.declared.table.Choice.{Choice}
use Rattle.command_line.specs.CommandTable.{Word, option_word, is_required, form_name, choices_of, takes_tables}
use Rattle.command_line.specs.Commands.{is_taken, are_tables}

-- the option stands among options with values
unfoldable pub has_option : Word → List Word → Bool
has_option option (word ∷ value ∷ others) = bytes_eq option word || has_option option others
has_option option _ = false

-- the word is an option that takes this value and isn't among the others
abbrev pub is_option : List Choice → (word value : Word) → List Word → Bool
is_option choices word value others = is_taken choices word value && not (has_option word others)

-- the words are options with values that they take, no option twice
unfoldable pub are_options : List Choice → List Word → Bool
are_options choices [] = true
are_options choices (word ∷ []) = false
are_options choices (word ∷ value ∷ others) =
    is_option choices word value others && are_options choices others

-- each required option stands among the words
abbrev pub has_required : List Choice → List Word → Bool
has_required choices words =
    list_all (λ choice. not (is_required choice) || has_option (option_word choice) words) choices

-- the words are options of a command, each at most once and each required one among them
abbrev pub are_plain : List Choice → List Word → Bool
are_plain choices words = are_options choices words && has_required choices words

-- the words are the name of a command of this form, and after it options of that command
pub record IsPlainHead (words : List Word) (form : Form) : Type 0 where
  pub others : List Word
  pub words_are : words ≡ form_name form ∷ others
  pub options : are_plain (choices_of form) others ≡ true

-- the words are that, and after it these tables of the command
pub record IsPlain (words tables : List Word) (form : Form) : Type 0 where
  pub head : List Word
  pub words_are : words ≡ head ++ tables
  pub plain : IsPlainHead head form
  pub files : are_tables form tables ≡ true

-- of the words after the name of a command those that stand before its tables: all, where it takes
-- none, else as many as each of its options and their values are
abbrev pub before_tables : {X : Type 0} → Form → List X → List X
before_tables form words =
    if takes_tables form then take (2 * length (choices_of form)) words else words

-- and those after them
abbrev pub tables_among : {X : Type 0} → Form → List X → List X
tables_among form words =
    if takes_tables form then drop (2 * length (choices_of form)) words else []

-- the values of a row's options
abbrev pub row_values : (Word → Option Word) → List Choice → List (Option Word)
row_values value_of choices = map (λ choice. value_of (option_word choice)) choices

-- the value of the option at a place of a row, if it has one
abbrev pub value_in_row : (Word → Option Word) → List Choice → (place : ℕ) → Option Word
value_in_row value_of choices place =
    option_and_then (λ choice. value_of (option_word choice)) (slice_get choices place)

-- each option that is required has a value
abbrev pub has_values : List Choice → List (Option Word) → Bool
has_values [] [] = true
has_values (choice ∷ choices) (value ∷ values) =
    (not (is_required choice) || is_some value) && has_values choices values
has_values _ _ = false
