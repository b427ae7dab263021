-- Words that mean a command pass the reader's test, and no others do.
use Rattle.command_line.proofs.Vocabulary.{ℕ, ◌≡◌, ◌≤◌, nat_le, ◌∷◌, ◌++◌, ◌||◌, ◌&&◌, not, true, false, List, [], drop, length, map, string_bytes, String, Global, Option, Some, None, refl, sym, ap, ap₂, ◌∙◌, get_or, append-nil, true≢false, arith, bytes_eq, IsDistinct, list_all, IsPermutation, keys_of, nat_list_eq_equiv, leb-true, length-map, length_permutation, IsPermutation-sym, IsPermutation-map, All-permutation, list_any-IsPermutation, IsDistinct-IsPermutation, Form, Zero, Schedule, Synth, Check, Demo, Margin, Embed, Moves, Corners, Choice, Word, option_word, is_required, command_form, form_name, form_named, choices_of, table_bounds, takes_tables, Given, IsTaken, command_name, values_of, options_of, tables_of, are_tables, listed, option_words, is_file_name, HasValidTables, HasValidValues, IsCommand, IsSame, has_option, are_options, has_required, are_plain, before_tables, tables_among, has_values, IsPlainHead, IsPlain}
use Rattle.std.specs.Borrow.{Bor}
use Rattle.command_line.specs.declared.command.Command.{Command}
use Rattle.command_line.specs.declared.command.Command.TheVariants as command
use Rattle.command_line.specs.declared.table.Form.TheVariants.{Period}
use Rattle.command_line.proofs.GivenOptions.{both, has_option-given, has_option-value, SpellsOptions, spells_options, are_options-given, values_in, in_order, value_of-permutes, in_order-permutes}

-- ---- the table

-- a command has the name that denotes it
form_named-name : (form : Form) → form_named (form_name form) ≡ Some form
form_named-name Zero = refl
form_named-name form = refl

-- so commands with one name have one form
one_form : (form other : Form) → form_name form ≡ form_name other → form ≡ other
one_form form other same =
    let found : Some form ≡ Some other =
    sym (form_named-name form) ∙ ap form_named same ∙ form_named-name other in
    cc

pub same_form : (command other : Command) → command_name command ≡ command_name other
    → command_form command ≡ command_form other
same_form command other same = one_form (command_form command) (command_form other) same

-- no command has an option twice
options_differ : (form : Form) → IsDistinct bytes_eq (map option_word (choices_of form))
unfolding IsDistinct
options_differ Synth = ((refl, (refl, tt)), ((refl, tt), (tt, tt)))
options_differ Check =
    ((refl, (refl, (refl, tt))), ((refl, (refl, tt)), ((refl, tt), (tt, tt))))
options_differ Margin = ((refl, (refl, tt)), ((refl, tt), (tt, tt)))
options_differ Embed =
    ((refl, (refl, (refl, tt))), ((refl, (refl, tt)), ((refl, tt), (tt, tt))))
options_differ Moves =
    ((refl, (refl, (refl, tt))), ((refl, (refl, tt)), ((refl, tt), (tt, tt))))
options_differ Corners = (tt, tt)
options_differ form = ((refl, tt), (tt, tt))

-- what the options of a command come to by its row: they differ, the row requires no others, and
-- they stand in its order
record FitsRow (command : Command) : Type 0 where
  once : IsDistinct bytes_eq (keys_of (options_of command))
  required : has_required (choices_of (command_form command)) (option_words (options_of command))
      ≡ true
  ordered : options_of command ≡ in_order (choices_of (command_form command)) (options_of command)

-- the options of each command do
fits_row : (command : Command) → FitsRow command
unfolding has_option IsDistinct
fits_row (command.Zero bench None) =
    record { once = (tt, tt); required = refl; ordered = refl }
fits_row (command.Zero bench (Some tech)) =
    record { once = ((refl, tt), (tt, tt)); required = refl; ordered = refl }
fits_row (command.Synth bench tech pl) =
    record { once = options_differ Synth; required = refl; ordered = refl }
fits_row (command.Check bench tech pl report) =
    record { once = options_differ Check; required = refl; ordered = refl }
fits_row (command.Margin bench tech period) =
    record { once = options_differ Margin; required = refl; ordered = refl }
fits_row (command.Embed bench tech pl topology) =
    record { once = options_differ Embed; required = refl; ordered = refl }
fits_row (command.Moves bench tech pl moves) =
    record { once = options_differ Moves; required = refl; ordered = refl }
fits_row (command.Corners bench tables) =
    record { once = (tt, tt); required = refl; ordered = refl }
fits_row command = record { once = ((refl, tt), (tt, tt)); required = refl; ordered = refl }

-- ---- the tables

-- what stands after a command's name, with its options in some order, is cut into these and its
-- tables
record AreCut (command : Command) (given : List Given) : Type 0 where
  options : before_tables (command_form command) (option_words given ++ tables_of command)
      ≡ option_words given
  tables : tables_among (command_form command) (option_words given ++ tables_of command)
      ≡ tables_of command

are_cut : (command : Command) (given : List Given) → IsPermutation (options_of command) given
    → AreCut command given
are_cut (command.Corners bench tables) given moved =
    at given (length_permutation (options_of (command.Corners bench tables)) given moved)
  where
    at : (given : List Given) → length given ≡ 1 → AreCut (command.Corners bench tables) given
    at [] one = absurd (omega arith)
    at (first ∷ []) one = record { options = refl; tables = refl }
    at (first ∷ second ∷ more) one = absurd (omega arith)
are_cut command given moved =
    record { options = append-nil (option_words given); tables = refl }

-- ---- a command's words pass

-- what a command's words say of what stands before its tables
options_pass : (command : Command) (given : List Given) → IsPermutation (options_of command) given
    → HasValidValues command → are_plain (choices_of (command_form command)) (option_words given)
    ≡ true
options_pass command given moved valid =
    let options = options_of command in
    let keys = IsPermutation-map (λ one. one.0) options given moved in
    let once = IsDistinct-IsPermutation bytes_eq nat_list_eq_equiv.symm (keys_of options)
    (keys_of given) keys (fits_row command).once in
    let taken =
    All-permutation (IsTaken (choices_of (command_form command))) options given moved valid in
    let stands : (word : Word) → has_option word (option_words given)
    ≡ has_option word (option_words options) =
    λ word. has_option-given word given
    ∙ sym (list_any-IsPermutation (bytes_eq word) (keys_of options) (keys_of given) keys)
    ∙ sym (has_option-given word options) in
    let required : has_required (choices_of (command_form command)) (option_words given) ≡ true =
    (λ i. list_all (λ choice. not (is_required choice) || stands (option_word choice) i)
    (choices_of (command_form command)))
    ∙ (fits_row command).required in
    rw (are_options-given (choices_of (command_form command)) given once taken) required

-- what stands after the name passes, and so do the tables
pub record Passes (form : Form) (others : List Word) : Type 0 where
  pub options : are_plain (choices_of form) (before_tables form others) ≡ true
  pub tables : are_tables form (tables_among form others) ≡ true

pub command_passes : (words : List Word) (form : Form) (others : List Word)
    → words ≡ form_name form ∷ others → (command : Command) → IsCommand words command
    → Passes form others
command_passes words form others is command means =
    let same = sym means.words_are ∙ is in
    let name : command_form command ≡ form = one_form (command_form command) form
    (ap (λ (ws : List Word). get_or ws 0 []) same) in
    let rest : option_words means.given ++ tables_of command ≡ others =
    ap (λ (ws : List Word). drop 1 ws) same in
    let cut = are_cut command means.given means.options in
    rw (← name, ← rest) (record {
      options = rw cut.options (options_pass command means.given means.options means.values);
      tables = rw cut.tables means.tables;
    })

-- ---- words mean one command

-- words spell one list of options with values
one_given : (given other : List Given) → option_words given ≡ option_words other → given ≡ other
one_given [] [] same = refl
one_given [] (two ∷ more) same = cc
one_given (one ∷ more) [] same = cc
one_given (one ∷ more) (two ∷ others) same =
    λ i. (get_or (same i) 0 [], get_or (same i) 1 []) ∷ one_given more others
    (ap (λ (words : List Word). drop 2 words) same) i

-- the options of a command are those that stand, in the order of its row
options_ordered : (command : Command) (given : List Given)
    → IsPermutation (options_of command) given
    → options_of command ≡ in_order (choices_of (command_form command)) given
options_ordered command given moved =
    (fits_row command).ordered ∙ (λ i. listed (choices_of (command_form command))
    (map (λ choice. sym (value_of-permutes (option_word choice) (options_of command) given
    (fits_row command).once moved) i) (choices_of (command_form command))))

-- words mean one command at most
pub one_command : (words : List Word) (command other : Command) → IsCommand words command
    → IsCommand words other → IsSame command other
one_command words command other means means' =
    let same = sym means.words_are ∙ means'.words_are in
    let name : command_name command ≡ command_name other = ap (λ
    (ws : List Word). get_or ws 0 []) same in
    let form = same_form command other name in
    let rest : option_words means.given ++ tables_of command
    ≡ option_words means'.given ++ tables_of other = ap (λ (ws : List Word). drop 1 ws) same in
    let cut = are_cut command means.given means.options in
    let cut' = are_cut other means'.given means'.options in
    let given : means.given ≡ means'.given = one_given means.given means'.given
    (sym cut.options ∙ ap₂ (λ f (ws : List Word). before_tables f ws) form rest ∙ cut'.options) in
    record {
      name = name;
      options = options_ordered command means.given means.options
          ∙ ap₂ in_order (ap choices_of form) given
          ∙ sym (options_ordered other means'.given means'.options);
      tables = sym cut.tables ∙ ap₂ (λ f (ws : List Word). tables_among f ws) form rest
          ∙ cut'.tables;
    }

-- ---- plain words mean a command

-- the options that a row requires have values
pub has_values-given : (choices : List Choice) (given : List Given)
    → has_values choices (values_in choices given) ≡ has_required choices (option_words given)
has_values-given [] given = refl
has_values-given (choice ∷ more) given =
    ap₂ (λ some rest. (not (is_required choice) || some) && rest)
    (sym (has_option-value (option_word choice) given)) (has_values-given more given)

-- the words that a slice of the command line holds
abbrev pub Tables : Type 0
Tables = Bor (List (String Global))

-- a command of this form whose options have these values
record Made (form : Form) (values : List (Option Word)) : Type 0 where
  command : Command
  has_form : command_form command ≡ form
  has_values : values_of command ≡ values

-- a command that takes no tables has none
tables_none : (command : Command) → takes_tables (command_form command) ≡ false → tables_of command
    ≡ []
tables_none (command.Corners bench tables) takes = absurd (true≢false takes)
tables_none command takes = refl

-- words that are a command's tables are no more than it takes
few_tables : (form : Form) (tables : List Word) → are_tables form tables ≡ true
    → length tables ≤ (table_bounds form).1
few_tables form tables valid =
    let few = nat_le (length tables) (table_bounds form).1 in
    let files = list_all is_file_name tables in
    leb-true (length tables) (table_bounds form).1 (both few files
    (both (nat_le (table_bounds form).0 (length tables)) (few && files) valid).1).0

-- and none stand after it
pub no_tables : (form : Form) (tables : List Word) → takes_tables form ≡ false
    → are_tables form tables ≡ true → [] ≡ tables
no_tables Corners tables takes valid = absurd (true≢false takes)
no_tables form [] takes valid = refl
no_tables form (table ∷ tables) takes valid =
    let few = few_tables form (table ∷ tables) valid in absurd (omega (arith, few))

-- a command of several corners has from 1 to 16 of them
pub corners_within : (bench : Bor Word) (tables : Tables)
    → HasValidTables (command.Corners bench tables)
    → (1 ≤ length tables.now) × (length tables.now ≤ 16)
corners_within bench tables valid =
    let words = map string_bytes tables.now in
    let few = nat_le (length words) 16 in
    let files = list_all is_file_name words in
    let parts = both (nat_le 1 (length words)) (few && files) valid in
    let some = leb-true 1 (length words) parts.0 in
    let most = leb-true (length words) 16 (both few files parts.1).0 in
    let same = length-map tables.now string_bytes in
    (omega (arith, some, same), omega (arith, most, same))

module _ (at : ℕ × ℕ) (tables : Tables) where
  -- a word that is borrowed
  abbrev borrowed : Word → Bor Word
  borrowed word = record { ref_ptr = at; now = word }

  -- there is one where each option that is required has a value
  made : (form : Form) (values : List (Option Word)) → has_values (choices_of form) values ≡ true
      → Made form values
  made Zero (Some bench ∷ None ∷ []) has =
      record { command = command.Zero (borrowed bench) None; has_form = refl; has_values = refl }
  made Zero (Some bench ∷ Some tech ∷ []) has = record {
    command = command.Zero (borrowed bench) (Some (borrowed tech));
    has_form = refl;
    has_values = refl;
  }
  made Period (Some bench ∷ Some tech ∷ []) has = record {
    command = command.Period (borrowed bench) (borrowed tech);
    has_form = refl;
    has_values = refl;
  }
  made Schedule (Some bench ∷ Some tech ∷ []) has = record {
    command = command.Schedule (borrowed bench) (borrowed tech);
    has_form = refl;
    has_values = refl;
  }
  made Synth (Some bench ∷ Some tech ∷ Some pl ∷ []) has = record {
    command = command.Synth (borrowed bench) (borrowed tech) (borrowed pl);
    has_form = refl;
    has_values = refl;
  }
  made Check (Some bench ∷ Some tech ∷ Some pl ∷ Some report ∷ []) has = record {
    command = command.Check (borrowed bench) (borrowed tech) (borrowed pl) (borrowed report);
    has_form = refl;
    has_values = refl;
  }
  made Demo (Some registers ∷ Some seed ∷ []) has = record {
    command = command.Demo (borrowed registers) (borrowed seed);
    has_form = refl;
    has_values = refl;
  }
  made Margin (Some bench ∷ Some tech ∷ Some period ∷ []) has = record {
    command = command.Margin (borrowed bench) (borrowed tech) (borrowed period);
    has_form = refl;
    has_values = refl;
  }
  made Embed (Some bench ∷ Some tech ∷ Some pl ∷ Some topology ∷ []) has = record {
    command = command.Embed (borrowed bench) (borrowed tech) (borrowed pl) (borrowed topology);
    has_form = refl;
    has_values = refl;
  }
  made Moves (Some bench ∷ Some tech ∷ Some pl ∷ Some moves ∷ []) has = record {
    command = command.Moves (borrowed bench) (borrowed tech) (borrowed pl) (borrowed moves);
    has_form = refl;
    has_values = refl;
  }
  made Corners (Some bench ∷ []) has = record {
    command = command.Corners (borrowed bench) tables;
    has_form = refl;
    has_values = refl;
  }
  made form values has = cc

  -- which has these tables, where it takes as many
  made_tables : (form : Form) (values : List (Option Word))
      (has : has_values (choices_of form) values ≡ true)
      → are_tables form (map string_bytes tables.now) ≡ true
      → tables_of (made form values has).command ≡ map string_bytes tables.now
  unfolding made
  made_tables Corners (Some bench ∷ []) has valid = refl
  made_tables Corners values has valid = cc
  made_tables form values has valid =
      let m = made form values has in
      tables_none m.command (ap takes_tables m.has_form)
      ∙ no_tables form (map string_bytes tables.now) refl valid

module _ (words : List Word) (form : Form) (plain : IsPlainHead words form) where
  -- the options that plain words spell
  pub spelled : SpellsOptions (choices_of form) plain.others
  spelled = spells_options (choices_of form) plain.others
      (both (are_options (choices_of form) plain.others)
      (has_required (choices_of form) plain.others) plain.options).0

  -- those that are required have values
  pub has_values-plain : has_values (choices_of form) (values_in (choices_of form) spelled.given)
      ≡ true
  has_values-plain = has_values-given (choices_of form) spelled.given
      ∙ ap (has_required (choices_of form)) (sym spelled.words_are)
      ∙ (both (are_options (choices_of form) plain.others)
      (has_required (choices_of form) plain.others) plain.options).1

-- so plain words mean the command that has these values and these tables
pub means_command : (words tables : List Word) (form : Form) (plain : IsPlain words tables form)
    → (command : Command) → command_form command ≡ form → values_of command
    ≡ values_in (choices_of form) (spelled plain.head form plain.plain).given
    → tables_of command ≡ tables → IsCommand words command
means_command words tables form plain command has values stands =
    let spelled = spelled plain.head form plain.plain in
    let options : options_of command ≡ in_order (choices_of form) spelled.given =
    λ i. listed (choices_of (has i)) (values i) in
    let moved = in_order-permutes (choices_of form) spelled.given
    (options_differ form) spelled.once spelled.taken in
    record {
      given = spelled.given;
      words_are = plain.words_are ∙ (λ i. (plain.plain.words_are i) ++ sym stands i)
          ∙ (λ i. form_name (sym has i) ∷ (spelled.words_are i ++ tables_of command));
      options = rw options (IsPermutation-sym spelled.given _ moved);
      values = rw (options, has) (All-permutation
          (IsTaken (choices_of form)) spelled.given _ moved spelled.taken);
      tables = rw (has, stands) plain.files;
    }

-- and there is one
pub some_command : (words : List Word) (form : Form) (at : ℕ × ℕ) (tables : Tables)
    → IsPlain words (map string_bytes tables.now) form
    → (command : Command) × IsCommand words command
some_command words form at tables plain =
    let values = values_in (choices_of form) (spelled plain.head form plain.plain).given in
    let has = has_values-plain plain.head form plain.plain in
    let m = made at tables form values has in (
      m.command,
      means_command words (map string_bytes tables.now) form plain m.command m.has_form
          m.has_values (made_tables at tables form values has plain.files),
    )
