-- The parsers of the commands take plain words.
use Rattle.command_line.proofs.Vocabulary.{◌≡◌, not, ◌||◌, ◌&&◌, Bool, true, false, List, [], ◌∷◌, map, cond, Option, Some, None, is_some, refl, sym, ap, ◌∙◌, subst, true≢false, codes, bytes_eq, All, AllByRecursion, list_all, nat_list_eq_equiv, All-head, All-tail, long_of, Row, Rule, arg_by_id, arg_by_long, rows_of, first_of, nothing_held, rows_after, App, Shape, argument_words, built, is_simple, label_of, matches_of, is_given, is_valid, takes, leaf_takes, Form, Zero, Choice, Word, option_word, value_kind, is_required, form_name, choices_of, Given, IsTaken, is_value, is_taken, is_file_name, option_words, has_option, are_options, has_required, row_values, IsPlainHead, long_name, parser_for}
use Rattle.std.specs.Prelude.{find, option_and_then, slice_get}
use Rattle.std.specs.Option.{option_map_or}
use Rattle.clap.specs.Facts.{explicit_source}
use Rattle.clap.specs.Matches.{first_value}
use Rattle.clap.specs.declared.parser.matches.Found.{Found}
use Rattle.clap.proofs.WalkLemmas.{first_value-rows}
use Rattle.command_line.proofs.GivenOptions.{both, is_word, value_of, has_option-value, values_in, SpellsOptions}
use Rattle.command_line.proofs.NumberWords.{value_first}
use Rattle.command_line.proofs.PlainCommands.{spelled}
use Rattle.command_line.proofs.ParserWalk.{HaveNoDefaults, IsReadBy, Lacks, Walks, row_for, rule_with, walks, level-walks, rows_after-walks}

-- ---- the rows that options and their values leave

-- the rows read as the options do
first_of-rows : (word : Word) (given : List Given)
    → first_of word (map row_for given) ≡ value_of word given
first_of-rows word [] = refl
first_of-rows word (one ∷ more) = rw (nat_list_eq_equiv.symm one.0 word)
    (at (bytes_eq word one.0) (first_of-rows word more))
  where
    at : (same : Bool) → first_of word (map row_for more) ≡ value_of word more
        → option_and_then (λ (row : Row). slice_get row.values 0)
        (cond same (Some (row_for one)) (find (λ row. bytes_eq row.id word) (map row_for more)))
        ≡ cond same (Some one.1) (value_of word more)
    at true rest = refl
    at false rest = rest

-- an option is given by the rows where it has a value
given-rows : (word : Word) (given : List Given)
    → is_given word (map row_for given) ≡ is_some (value_of word given)
given-rows word [] = refl
given-rows word (one ∷ more) = rw (nat_list_eq_equiv.symm one.0 word)
    (at (bytes_eq word one.0) (given-rows word more))
  where
    at : (same : Bool) → is_given word (map row_for more) ≡ is_some (value_of word more)
        → option_map_or (λ (row : Row). explicit_source row.source)
        (cond same (Some (row_for one)) (find (λ row. bytes_eq row.id word) (map row_for more)))
        false
        ≡ is_some (cond same (Some one.1) (value_of word more))
    at true rest = refl
    at false rest = rest

-- no rows lack all options
lacks_all : (given : List Given) → Lacks [] given
lacks_all [] = tt
lacks_all (one ∷ more) = (refl, lacks_all more)

-- ---- the parsers of the commands

-- what a parser has for an option's word, and as what the word is read
abbrev Reading : Type 0
Reading = Option Rule × Option Rule × Option (Word × Option Word) × Bool

abbrev reading : List Rule → Word → Reading
reading rules word = (
  arg_by_id rules word,
  arg_by_long rules (long_name word),
  long_of word,
  bytes_eq word
      (codes "--"),
)

-- that is due for an option
abbrev due : Choice → Reading
due choice =
    let word = option_word choice in
    let rule = Some (rule_with word (is_required choice)) in
    (rule, rule, Some (long_name word, None), false)

-- a parser without subcommands reads these options, and requires what their row requires
record Reads (top : Shape) (choices : List Choice) : Type 0 where
  each : map (λ choice. reading top.rules (option_word choice)) choices ≡ map due choices
  no_defaults : HaveNoDefaults top.rules
  valid : (rows : List Row) → is_valid top rows false
      ≡ list_all (λ choice. not (is_required choice) || is_given (option_word choice) rows) choices

-- the parser of each command does
reads : (form : Form) → Reads (built (parser_for form)).top (choices_of form)
reads Zero = record { each = refl; no_defaults = refl; valid = λ rows. refl }
reads form = record { each = refl; no_defaults = refl; valid = λ rows. refl }

-- and it has none
alone : (form : Form) → (built (parser_for form)).subs ≡ []
alone Zero = refl
alone form = refl

after_name : (form : Form) (name : Word) (others : List Word)
    → argument_words (parser_for form) (name ∷ others) ≡ others
after_name Zero name others = refl
after_name form name others = refl

-- it is one of those whose matches are known
is_simple_parser : (form : Form) → is_simple (parser_for form) ≡ true
is_simple_parser Zero = refl
is_simple_parser form = refl

-- an option that a row takes is read where each of the row is
read_taken : (rules : List Rule) (choices : List Choice)
    → map (λ choice. reading rules (option_word choice)) choices ≡ map due choices
    → (one : Given) → IsTaken choices one → IsReadBy rules one.0 × (is_file_name one.1 ≡ true)
read_taken rules [] each one taken = absurd (true≢false (sym taken))
read_taken rules (choice ∷ more) each one taken =
    at (bytes_eq (option_word choice) one.0) refl (is_value (value_kind choice) one.1) refl taken
    (read_taken rules more (cc) one)
  where
    read : IsReadBy rules (option_word choice)
    read =
        let is : reading rules (option_word choice) ≡ due choice = cc in
        record {
          required = is_required choice;
          by_id = ap (λ (r : Reading). r.0) is;
          by_long = ap (λ (r : Reading). r.1) is;
          long = ap (λ (r : Reading). r.2) is;
          option = ap (λ (r : Reading). r.3) is;
        }

    at : (same : Bool) → bytes_eq (option_word choice) one.0 ≡ same
        → (valid : Bool) → is_value (value_kind choice) one.1 ≡ valid
        → (same && valid || is_taken more one.0 one.1) ≡ true
        → (IsTaken more one → IsReadBy rules one.0 × (is_file_name one.1 ≡ true))
        → IsReadBy rules one.0 × (is_file_name one.1 ≡ true)
    at true same true valid taken rest = (
      subst (IsReadBy rules) (is_word (option_word choice) one.0 same) read,
      value_first
          (value_kind choice) one.1 valid,
    )
    at true same false valid taken rest = rest taken
    at false same valid is taken rest = rest taken

-- so are all options that it takes
read_all : (rules : List Rule) (choices : List Choice)
    → map (λ choice. reading rules (option_word choice)) choices ≡ map due choices
    → (given : List Given) → All (IsTaken choices) given
    → AllByRecursion (λ one. IsReadBy rules one.0 × (is_file_name one.1 ≡ true)) given
read_all rules choices each [] taken = tt
read_all rules choices each (one ∷ more) taken = (
  read_taken rules choices each one (All-head (IsTaken choices) one more taken),
  read_all rules choices each more (All-tail (IsTaken choices) one more taken),
)

-- ---- plain words, read

module _ (words : List Word) (form : Form) (plain : IsPlainHead words form) where
  -- the options that they spell, and the parser for them
  abbrev options : SpellsOptions (choices_of form) plain.others
  options = spelled words form plain

  abbrev top : Shape
  top = (built (parser_for form)).top

  -- the parser walks over them
  walks_plain : Walks top nothing_held options.given
  walks_plain = walks top options.given nothing_held refl
      (read_all top.rules (choices_of form) (reads form).each options.given options.taken)
      options.once (lacks_all options.given)

  words_spelled : words ≡ form_name form ∷ option_words options.given
  words_spelled = plain.words_are ∙ ap (λ others. form_name form ∷ others) options.words_are

  -- it has what it requires
  valid_plain : is_valid top (map row_for options.given) false ≡ true
  valid_plain = (reads form).valid (map row_for options.given)
      ∙ (λ i. list_all (λ choice. not (is_required choice) || stands (option_word choice) i)
      (choices_of form))
      ∙ (both (are_options (choices_of form) plain.others)
      (has_required (choices_of form) plain.others) plain.options).1
    where
      stands : (word : Word) → is_given word (map row_for options.given)
          ≡ has_option word plain.others
      stands word = given-rows word options.given ∙ sym (has_option-value word options.given)
          ∙ ap (has_option word) (sym options.words_are)

  module _ (app : App) (is : app ≡ parser_for form) where
    -- so it takes them
    pub takes_words : takes app words ≡ true
    takes_words =
        rw (
          is,
          words_spelled,
          is_simple_parser form,
          after_name form (form_name form)
              (option_words options.given),
        )
        (leaf_takes (built (parser_for form)) nothing_held (option_words options.given) (alone form)
        (level-walks top options.given walks_plain (reads form).no_defaults valid_plain))

    -- and what it finds are the values of their options
    pub finds_values : {Z : Type 0} (found : Found)
        → (is_simple app ≡ true → (rows_of found ≡ matches_of app words) × Z)
        → row_values (first_value found) (choices_of form)
        ≡ values_in (choices_of form) options.given
    finds_values found finds = λ i. map (λ choice. value (option_word choice) i) (choices_of form)
      where
        rows : rows_of found ≡ map row_for options.given
        rows =
            (finds (ap is_simple is ∙ is_simple_parser form)).0
            ∙ (λ i. matches_of (is i) (words_spelled i))
            ∙ (λ i. rows_after top.rules (map label_of (alone form i))
            (after_name form (form_name form) (option_words options.given) i))
            ∙ rows_after-walks top options.given walks_plain (reads form).no_defaults

        value : (word : Word) → first_value found word ≡ value_of word options.given
        value word = first_value-rows found word ∙ ap (first_of word) rows
            ∙ first_of-rows word options.given
