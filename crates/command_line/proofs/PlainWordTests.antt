-- What the reader's tests of words come to on lists of words that were read one by one.
use Rattle.command_line.proofs.Vocabulary.{◌≡◌, ◌<◌, ◌≤◌, ◌-◌, ◌*◌, ◌&&◌, ◌||◌, ◌==◌, Bool, true, false, if◌then◌else◌, List, [], ◌∷◌, ◌++◌, length, map, take, drop, refl, sym, ap, ◌∙◌, subst, arith, get_or, append-nil, length-append, list_all, bytes_eq, take_all, take-append-drop, take-map, drop-map, length-map, map-append, Choice, Form, Word, choices_of, takes_tables, has_option, is_option, are_options, before_tables, tables_among, IsPlainHead, IsPlain}
use Rattle.std.proofs.Math.Seq.{take-append_seam}

module _ {X : Type 0} where
  -- what stands after the first of a list, as a slice pattern gives it
  abbrev pub after_one : List X → List X
  after_one words = take (length words - 1) (drop 1 words)

  -- and after the first two
  abbrev pub after_two : List X → List X
  after_two words = take (length words - 2) (drop 2 words)

module _ {X : Type 0} (read : X → Word) where
  -- the first word, and the others
  pub first_word : (words : List X) (first : X) → 1 ≤ length words → first ≡ get_or words 0 first
      → map read words ≡ read first ∷ map read (after_one words)
  first_word [] first enough is = absurd (omega arith)
  first_word (x ∷ more) first enough is =
      rw (take_all (length (x ∷ more) - 1) more (omega arith), is) refl

  -- where there is none, each passes a test
  pub no_words : (words : List X) (test : Word → Bool) → length words < 1
      → list_all test (map read words) ≡ true
  no_words [] test none = refl
  no_words (x ∷ more) test none = absurd (omega arith)

  -- fewer than two words hold no option
  pub has_option-few : (option : Word) (words : List X) → length words < 2
      → has_option option (map read words) ≡ false
  unfolding has_option
  has_option-few option [] few = refl
  has_option-few option (x ∷ []) few = refl
  has_option-few option (x ∷ y ∷ more) few = absurd (omega arith)

  -- the first two words are an option and a value
  pub has_option-more : (option : Word) (words : List X) (first : X) → 2 ≤ length words
      → first ≡ get_or words 0 first → has_option option (map read words)
      ≡ (bytes_eq option (read first) || has_option option (map read (after_two words)))
  unfolding has_option
  has_option-more option [] first enough is = absurd (omega arith)
  has_option-more option (x ∷ []) first enough is = absurd (omega arith)
  has_option-more option (x ∷ y ∷ more) first enough is =
      rw (take_all (length (x ∷ y ∷ more) - 2) more (omega arith), is) refl

  -- fewer than two words are options where there are none
  pub are_options-few : (choices : List Choice) (words : List X) → length words < 2
      → are_options choices (map read words) ≡ (length words == 0)
  unfolding are_options
  are_options-few choices [] few = refl
  are_options-few choices (x ∷ []) few = refl
  are_options-few choices (x ∷ y ∷ more) few = absurd (omega arith)

  -- the first two words are an option and a value
  pub are_options-more : (choices : List Choice) (words : List X) (first second : X)
      → 2 ≤ length words → first ≡ get_or words 0 first → second ≡ get_or words 1 second
      → are_options choices (map read words)
      ≡ (is_option choices (read first) (read second) (map read (after_two words))
      && are_options choices (map read (after_two words)))
  unfolding are_options
  are_options-more choices [] first second enough is is' = absurd (omega arith)
  are_options-more choices (x ∷ []) first second enough is is' = absurd (omega arith)
  are_options-more choices (x ∷ y ∷ more) first second enough is is' =
      rw (take_all (length (x ∷ y ∷ more) - 2) more (omega arith), is, is') refl

  -- what stands before the tables is cut off word by word, and so are they
  pub before_tables-map : (form : Form) (words : List X)
      → before_tables form (map read words) ≡ map read (before_tables form words)
  before_tables-map form words = at (takes_tables form)
    where
      at : (takes : Bool) → (if takes then take (2 * length (choices_of form)) (map read words)
          else map read words)
          ≡ map read (if takes then take (2 * length (choices_of form)) words else words)
      at true = take-map read (2 * length (choices_of form)) words
      at false = refl

  pub tables_among-map : (form : Form) (words : List X)
      → tables_among form (map read words) ≡ map read (tables_among form words)
  tables_among-map form words = at (takes_tables form)
    where
      at : (takes : Bool) → (if takes then drop (2 * length (choices_of form)) (map read words)
          else [])
          ≡ map read (if takes then drop (2 * length (choices_of form)) words else [])
      at true = drop-map read (2 * length (choices_of form)) words
      at false = refl

  -- both together are the words
  pub joined_tables : (form : Form) (words : List X)
      → map read words
      ≡ map read (before_tables form words) ++ map read (tables_among form words)
  joined_tables form words = at (takes_tables form)
    where
      at : (takes : Bool) → map read words
          ≡ map read (if takes then take (2 * length (choices_of form)) words else words)
          ++ map read (if takes then drop (2 * length (choices_of form)) words else [])
      at true =
          let count = 2 * length (choices_of form) in
          sym (ap (map read) (take-append-drop count words))
          ∙ map-append read (take count words) (drop count words)
      at false = sym (append-nil (map read words))

  -- the words before the tables at the end
  module _ (words tables front : List X) (form : Form)
      (plain : IsPlain (map read words) (map read tables) form)
      (cut : front ≡ take (length words - length tables) words) where
    pub front_is : map read front ≡ plain.head
    front_is =
        let whole = ap (λ (ws : List Word). length ws) plain.words_are in
        let count : length words - length tables ≡ length plain.head = omega (
          arith,
          whole,
          length-map words read,
          length-map tables read,
          length-append plain.head (map read tables),
        ) in
        ap (map read) cut ∙ sym (take-map read (length words - length tables) words)
        ∙ (λ i. take (count i) (plain.words_are i))
        ∙ take-append_seam plain.head (map read tables)

    -- are plain before them
    abbrev pub plain_front : IsPlain (map read words) (map read tables) form
    plain_front = record {
      head = map read front;
      words_are = plain.words_are ∙ ap (λ head. head ++ map read tables) (sym front_is);
      plain = subst (λ head. IsPlainHead head form) (sym front_is) plain.plain;
      files = plain.files;
    }
