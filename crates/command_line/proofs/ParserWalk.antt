-- How `clap` walks over options with their values.
use Rattle.command_line.proofs.Vocabulary.{◌≡◌, ◌||◌, ◌++◌, Bool, true, false, cond, List, [], ◌∷◌, map, fold, Some, None, refl, sym, ap, ◌∙◌, subst, true≢false, codes, ◌==◌, bytes_eq, AllByRecursion, IsDistinct, list_all, keys_of, nat_list_eq_equiv, append_assoc, list_any-append, IsDistinct-head, IsDistinct-tail, long_of, short_of, Held, Row, Rule, Text, Walk, option, arg_by_id, arg_by_long, at_row, default_rows, has_row, more_values, nothing_held, reading_by, rows_after, settled, walk, walk_from, walked, with_default, Shape, filled, new_rule, default_passes, is_valid, level_passes, settle_passes, turn_passes, walk_passes, Word, Given, is_file_name, option_words, long_name}
use Rattle.std.proofs.Math.Bool.{and-true}
use Rattle.std.proofs.lemmas.List.{append-nil}
use Rattle.clap.specs.declared.builder.action.ArgAction.TheVariants.{Set}
use Rattle.clap.specs.declared.parser.matches.ValueSource.TheVariants.{CommandLine}
use Rattle.clap.specs.declared.builder.value_parser.Reading.TheVariants.{AsWritten}
use Rattle.command_line.proofs.GivenOptions.{is_false}

-- the row that an option and its value leave
abbrev pub row_for : Given → Row
row_for one = record {
  id = one.0;
  values = one.1 ∷ [];
  count = None;
  source = Some CommandLine;
  reading = AsWritten;
}

-- the argument for an option
abbrev pub rule_with : Word → Bool → Rule
rule_with word required = filled (record (new_rule word) {
  long = Some (long_name word);
  required = required;
  action = Some Set;
})

-- the arguments have one for the option, and its word is read as that option without a value
pub record IsReadBy (rules : List Rule) (word : Word) : Type 0 where
  pub required : Bool
  pub by_id : arg_by_id rules word ≡ Some (rule_with word required)
  pub by_long : arg_by_long rules (long_name word) ≡ Some (rule_with word required)
  pub long : long_of word ≡ Some (long_name word, None)
  pub option : bytes_eq word (codes "--") ≡ false

-- ---- rows

-- a row that isn't there comes to the end
at_row-absent : (id : Text) (change : Row → List Row) (missing rows : List Row)
    → has_row id rows ≡ false → at_row id change missing rows ≡ rows ++ missing
at_row-absent id change missing [] absent = refl
at_row-absent id change missing (row ∷ rows) absent =
    at (bytes_eq row.id id) refl (λ rest. at_row-absent id change missing rows rest)
  where
    at : (same : Bool) → bytes_eq row.id id ≡ same
        → (has_row id rows ≡ false → at_row id change missing rows ≡ rows ++ missing)
        → at_row id change missing (row ∷ rows) ≡ (row ∷ rows) ++ missing
    at true same rest = absurd (true≢false (sym (ap (λ test. test || has_row id rows) same)
        ∙ absent))
    at false same rest = rw same (ap (λ xs. row ∷ xs)
        (rest (sym (ap (λ test. test || has_row id rows) same) ∙ absent)))

-- ---- one option and its value

-- the word is no option, for the parser
record IsNoOption (value : Word) : Type 0 where
  end : bytes_eq value (codes "--") ≡ false
  long : long_of value ≡ None
  short : short_of value ≡ None

-- what may be a file's name is none
no_option : (value : Word) → is_file_name value ≡ true → IsNoOption value
no_option [] plain = absurd (true≢false (sym plain))
no_option (byte ∷ bytes) plain =
    let apart = is_false (byte == 45) plain in
    record { end = rw apart refl; long = rw apart refl; short = rw apart refl }

module _ (s : Shape) (word value : Word) (h : Held) where
  -- what is held after the option's word, and after its value
  abbrev after_word : Held
  after_word = record (settled s.rules h) { pending = Some (word, []) }

  abbrev pub after_value : Held
  after_value = record (settled s.rules h) { pending = Some (word, value ∷ []) }

  abbrev between : Walk
  between = record {
    held = after_word;
    waiting = option word;
    position = 1;
    is_trailing = false;
    stopped = None;
  }

  -- the option's word waits for a value
  walked-word : IsReadBy s.rules word → walked s.rules [] (walk_from h) word ≡ between
  unfolding walked
  walked-word read = rw (read.option, read.long, read.by_long) refl

  -- it passes where what was pending does
  turn-word : IsReadBy s.rules word → turn_passes s [] (walk_from h) word
      ≡ settle_passes s.rules s.args_override_self h
  turn-word read = rw (read.option, read.long, read.by_long)
      (and-true (settle_passes s.rules s.args_override_self h))

  -- the value is taken
  walked-value : IsReadBy s.rules word → IsNoOption value
      → walked s.rules [] between value ≡ walk_from after_value
  unfolding walked
  walked-value read plain = rw (
    plain.end,
    plain.long,
    plain.short,
    read.by_id,
    nat_list_eq_equiv.refl word,
  ) refl

  -- it passes
  turn-value : IsNoOption value → turn_passes s [] between value ≡ true
  turn-value plain = rw (plain.end, plain.long, plain.short) refl

  -- what is pending then passes, where the option is used for the first time
  settles-after : IsReadBy s.rules word → has_row word (settled s.rules h).rows ≡ false
      → settle_passes s.rules s.args_override_self after_value ≡ true
  settles-after read absent = rw (read.by_id, absent) refl

  -- and it leaves its row
  rows-after : IsReadBy s.rules word → has_row word (settled s.rules h).rows ≡ false
      → (settled s.rules after_value).rows ≡ (settled s.rules h).rows ++ row_for (word, value) ∷ []
  rows-after read absent =
      let rows = (settled s.rules h).rows in
      rw (read.by_id, at_row-absent word (λ _. []) [] rows absent, append-nil rows)
      (at_row-absent word (more_values CommandLine (value ∷ []))
      (row_for (word, value) ∷ []) rows absent)

-- ---- all options and their values

-- the rows have none of these options
abbrev pub Lacks : List Row → List Given → Type 0
Lacks rows given = AllByRecursion (λ one. has_row one.0 rows ≡ false) given

-- the row of an option that differs changes nothing
lacks_more : (one : Given) (more : List Given) (rows : List Row)
    → AllByRecursion (λ word. bytes_eq one.0 word ≡ false) (keys_of more) → Lacks rows more
    → Lacks (rows ++ row_for one ∷ []) more
lacks_more one [] rows differ lacks = tt
lacks_more one (other ∷ more) rows differ lacks = (
  rw (
    list_any-append (λ (row : Row). bytes_eq row.id other.0) rows (row_for one ∷ []),
    lacks.0,
    differ.0,
  ) refl,
  lacks_more one more rows differ.1 lacks.1,
)

-- the walk over options and their values passes, and leaves their rows
pub record Walks (s : Shape) (h : Held) (given : List Given) : Type 0 where
  pub passes : walk_passes s [] (walk_from h) (option_words given) ≡ true
  pub held : Held
  pub ends : walk s.rules [] h (option_words given) ≡ walk_from held
  pub settles : settle_passes s.rules s.args_override_self held ≡ true
  pub rows : (settled s.rules held).rows ≡ (settled s.rules h).rows ++ map row_for given

-- where what was pending passes, so does the walk over options that are read, each for the first
-- time
pub walks : (s : Shape) (given : List Given) (h : Held)
    → settle_passes s.rules s.args_override_self h ≡ true
    → AllByRecursion (λ one. IsReadBy s.rules one.0 × (is_file_name one.1 ≡ true)) given
    → IsDistinct bytes_eq (keys_of given) → Lacks (settled s.rules h).rows given → Walks s h given
unfolding walk_passes
walks s [] h settles reads once lacks = record {
  passes = refl;
  held = h;
  ends = refl;
  settles = settles;
  rows = sym (append-nil (settled s.rules h).rows);
}
walks s (one ∷ more) h settles reads once lacks =
    let read = reads.0.0 in
    let plain = no_option one.1 reads.0.1 in
    let added = rows-after s one.0 one.1 h read lacks.0 in
    let lacks' = lacks_more one more (settled s.rules h).rows
    (IsDistinct-head bytes_eq one.0 (keys_of more) once) lacks.1 in
    let rest = walks s more (after_value s one.0 one.1 h)
    (settles-after s one.0 one.1 h read lacks.0) reads.1
    (IsDistinct-tail bytes_eq one.0 (keys_of more) once)
    (subst (λ (rows : List Row). Lacks rows more) (sym added) lacks') in
    record {
      passes = rw (
        turn-word s one.0 one.1 h read,
        settles,
        walked-word s one.0 one.1 h read,
        turn-value s one.0 one.1 h plain,
        walked-value s one.0 one.1 h read plain,
      ) rest.passes;
      held = rest.held;
      ends = ap (λ (w : Walk). fold (walked s.rules []) w (one.1 ∷ option_words more))
          (walked-word s one.0 one.1 h read)
          ∙ ap (λ (w : Walk). fold (walked s.rules []) w (option_words more))
          (walked-value s one.0 one.1 h read plain) ∙ rest.ends;
      settles = rest.settles;
      rows = rest.rows ∙ ap (λ (rows : List Row). rows ++ map row_for more) added
          ∙ append_assoc (settled s.rules h).rows (row_for one ∷ []) (map row_for more);
    }

-- ---- after the walk

-- an argument without defaults adds no row
with_default-none : (rows : List Row) (rule : Rule) → rule.defaults ≡ []
    → with_default rows rule ≡ rows
with_default-none rows rule none = at (has_row rule.id rows)
  where
    at : (there : Bool) → cond there rows (default_rows rule.id
        (reading_by rule) rule.defaults rows) ≡ rows
    at true = refl
    at false = rw none refl

-- none of the arguments has defaults
abbrev pub HaveNoDefaults : List Rule → Type 0
HaveNoDefaults rules = map (λ rule. rule.defaults) rules ≡ map (λ _. []) rules

-- such arguments add no rows
finished-none : (rules : List Rule) (rows : List Row) → HaveNoDefaults rules
    → fold with_default rows rules ≡ rows
finished-none [] rows none = refl
finished-none (rule ∷ rules) rows none = rw (with_default-none rows rule (cc))
    (finished-none rules rows (cc))

-- nor is a default of theirs refused
defaults_pass : (rules : List Rule) → HaveNoDefaults rules → list_all default_passes rules ≡ true
defaults_pass [] none = refl
defaults_pass (rule ∷ rules) none =
    let here : rule.defaults ≡ [] = cc in
    rw here (defaults_pass rules (cc))

module _ (s : Shape) (given : List Given) (w : Walks s nothing_held given)
    (none : HaveNoDefaults s.rules) where
  -- a level of the parse passes that has these options and their values
  pub level-walks : is_valid s (map row_for given) false ≡ true
      → level_passes s [] nothing_held (option_words given) false ≡ true
  level-walks valid =
      rw (
        w.passes,
        w.ends,
        w.settles,
        defaults_pass s.rules none,
        finished-none s.rules (settled s.rules w.held).rows none,
        w.rows,
      ) valid

  -- and it leaves their rows
  pub rows_after-walks : rows_after s.rules [] (option_words given) ≡ map row_for given
  rows_after-walks = rw (w.ends, finished-none s.rules (settled s.rules w.held).rows none) w.rows
