-- Options with their values, and the words that spell them.
use Rattle.command_line.proofs.Vocabulary.{◌≡◌, ◌&&◌, ◌||◌, ◌++◌, Bool, true, false, not, cond, List, [], ◌∷◌, map, Option, Some, None, is_some, option_map, option_to_list, refl, sym, ap, ◌∙◌, subst, true≢false, bytes_eq, All, AllByRecursion, IsDistinct, list_any, IsPermutation, lookup, keys_of, nat_list_eq_equiv, bytes_eq-Decides, All-cons, All-nil, All-head, All-tail, IsPermutation-refl, IsPermutation-sym, IsPermutation-cons, IsPermutation-trans, IsPermutation-append_right, IsPermutation-middle, IsPermutation-map, Contains-permutation, list_any-IsPermutation, IsDistinct-IsPermutation, IsDistinct-cons, IsDistinct-head, IsDistinct-tail, Choice, Word, option_word, value_kind, Given, is_value, is_taken, IsTaken, option_words, listed_one, listed, has_option, are_options, row_values}
use Rattle.std.proofs.lemmas.Map.Made.{is_some-lookup}
use Rattle.std.proofs.lemmas.Map.Views.{Contains-from_lookup, lookup-from_Contains}

-- both of two tests pass
pub both : (a b : Bool) → (a && b) ≡ true → (a ≡ true) × (b ≡ true)
both true b pass = (refl, pass)
both false b pass = absurd (true≢false (sym pass))

-- neither of two tests passes
neither : (a b : Bool) → (a || b) ≡ false → (a ≡ false) × (b ≡ false)
neither true b fail = absurd (true≢false fail)
neither false b fail = (refl, fail)

-- a test whose opposite passes fails
pub is_false : (b : Bool) → not b ≡ true → b ≡ false
is_false true pass = absurd (true≢false (sym pass))
is_false false pass = refl

-- words that are tested as one are one
pub is_word : (word other : Word) → bytes_eq word other ≡ true → word ≡ other
is_word word other = (bytes_eq-Decides word other).0

-- the value that stands after an option
abbrev pub value_of : Word → List Given → Option Word
value_of option given = lookup (bytes_eq option) given

-- ---- the reader's test

-- an option stands among words that spell options exactly where it is one of them
pub has_option-given : (option : Word) (given : List Given)
    → has_option option (option_words given) ≡ list_any (bytes_eq option) (keys_of given)
unfolding has_option
has_option-given option [] = refl
has_option-given option (one ∷ more) =
    ap (λ rest. bytes_eq option one.0 || rest) (has_option-given option more)

-- and where it has a value
pub has_option-value : (option : Word) (given : List Given)
    → has_option option (option_words given) ≡ is_some (value_of option given)
has_option-value option given =
    has_option-given option given ∙ sym (is_some-lookup (bytes_eq option) given)

-- an option that doesn't stand differs from each that does
apart : (option : Word) (given : List Given) → has_option option (option_words given) ≡ false
    → AllByRecursion (λ other. bytes_eq option other ≡ false) (keys_of given)
unfolding has_option
apart option [] none = tt
apart option (one ∷ more) none =
    let parts = neither (bytes_eq option one.0) (has_option option (option_words more)) none in
    (parts.0, apart option more parts.1)

-- and the converse
apart_none : (option : Word) (given : List Given)
    → AllByRecursion (λ other. bytes_eq option other ≡ false) (keys_of given)
    → has_option option (option_words given) ≡ false
unfolding has_option
apart_none option [] differ = refl
apart_none option (one ∷ more) differ = rw (differ.0, apart_none option more differ.1) refl

-- the words spell options that differ and that a command takes
pub record SpellsOptions (choices : List Choice) (words : List Word) : Type 0 where
  pub given : List Given
  pub words_are : words ≡ option_words given
  pub once : IsDistinct bytes_eq (keys_of given)
  pub taken : All (IsTaken choices) given

-- words that pass the reader's test do
pub spells_options : (choices : List Choice) (words : List Word)
    → are_options choices words ≡ true → SpellsOptions choices words
unfolding are_options IsDistinct
spells_options choices [] pass =
    record { given = []; words_are = refl; once = tt; taken = All-nil (IsTaken choices) }
spells_options choices (word ∷ []) pass = absurd (true≢false (sym pass))
spells_options choices (word ∷ value ∷ others) pass =
    let taken = is_taken choices word value in
    let once = not (has_option word others) in
    let parts = both (taken && once) (are_options choices others) pass in
    let head = both taken once parts.0 in
    let rest = spells_options choices others parts.1 in
    let absent = ap (has_option word) (sym rest.words_are)
    ∙ is_false (has_option word others) head.1 in
    record {
      given = (word, value) ∷ rest.given;
      words_are = ap (λ words. word ∷ value ∷ words) rest.words_are;
      once = IsDistinct-cons bytes_eq word (keys_of rest.given)
          (apart word rest.given absent) rest.once;
      taken = All-cons (IsTaken choices) (word, value) rest.given head.0 rest.taken;
    }

-- and such words pass
pub are_options-given : (choices : List Choice) (given : List Given)
    → IsDistinct bytes_eq (keys_of given) → All (IsTaken choices) given
    → are_options choices (option_words given) ≡ true
unfolding are_options
are_options-given choices [] once taken = refl
are_options-given choices (one ∷ more) once taken =
    rw (
      All-head (IsTaken choices) one more taken,
      apart_none one.0 more (IsDistinct-head bytes_eq one.0 (keys_of more) once),
    )
    (are_options-given choices more (IsDistinct-tail bytes_eq one.0 (keys_of more) once)
    (All-tail (IsTaken choices) one more taken))

-- ---- the order of a row

-- the values of a row's options
abbrev pub values_in : List Choice → List Given → List (Option Word)
values_in choices given = row_values (λ word. value_of word given) choices

-- options in the order of a row
abbrev pub in_order : List Choice → List Given → List Given
in_order choices given = listed choices (values_in choices given)

-- what isn't there is nothing
no_value : (o : Option Word) → is_some o ≡ false → o ≡ None
no_value None none = refl
no_value (Some value) none = absurd (true≢false none)

-- options in another order have the same values
pub value_of-permutes : (option : Word) (given other : List Given)
    → IsDistinct bytes_eq (keys_of given) → IsPermutation given other
    → value_of option other ≡ value_of option given
value_of-permutes option given other once moved = at (value_of option given) refl
  where
    keys_moved : IsPermutation (keys_of given) (keys_of other)
    keys_moved = IsPermutation-map (λ one. one.0) given other moved

    at : (o : Option Word) → value_of option given ≡ o
        → value_of option other ≡ value_of option given
    at None is =
        no_value (value_of option other) (is_some-lookup (bytes_eq option) other
        ∙ sym (list_any-IsPermutation (bytes_eq option) (keys_of given) (keys_of other) keys_moved)
        ∙ sym (is_some-lookup (bytes_eq option) given) ∙ ap is_some is) ∙ sym is
    at (Some value) is =
        lookup-from_Contains nat_list_eq_equiv option value other
        (IsDistinct-IsPermutation bytes_eq nat_list_eq_equiv.symm (keys_of given)
        (keys_of other) keys_moved once)
        (Contains-permutation given other (option, value) moved
        (Contains-from_lookup is_word option value given is))
        ∙ sym is

-- an option that isn't of a row changes nothing in its order
in_order-other : (choices : List Choice) (one : Given) (more : List Given)
    → AllByRecursion (λ word. bytes_eq one.0 word ≡ false) (map option_word choices)
    → in_order choices (one ∷ more) ≡ in_order choices more
in_order-other [] one more other = refl
in_order-other (choice ∷ others) one more other =
    let apart = nat_list_eq_equiv.symm (option_word choice) one.0 ∙ other.0 in
    λ i. listed_one choice (cond (apart i) (Some one.1) (value_of (option_word choice) more))
    ++ in_order-other others one more other.1 i

-- one that a row takes, and that hasn't stood yet, comes in at its place
in_order-more : (choices : List Choice) (one : Given) (more : List Given)
    → IsDistinct bytes_eq (map option_word choices) → is_taken choices one.0 one.1 ≡ true
    → value_of one.0 more ≡ None
    → IsPermutation (one ∷ in_order choices more) (in_order choices (one ∷ more))
in_order-more [] one more row taken absent = absurd (true≢false (sym taken))
in_order-more (choice ∷ others) one more row taken absent =
    at (bytes_eq (option_word choice) one.0) refl
    (λ taken. in_order-more others one more (IsDistinct-tail bytes_eq (option_word choice)
    (map option_word others) row) taken absent)
  where
    at : (same : Bool) → bytes_eq (option_word choice) one.0 ≡ same
        → (is_taken others one.0 one.1 ≡ true
        → IsPermutation (one ∷ in_order others more) (in_order others (one ∷ more)))
        → IsPermutation (one ∷ in_order (choice ∷ others) more)
        (in_order (choice ∷ others) (one ∷ more))
    at true same rest =
        let is : option_word choice ≡ one.0 = is_word (option_word choice) one.0 same in
        let apart : AllByRecursion (λ word. bytes_eq one.0 word ≡ false) (map option_word others) =
        subst (λ word. AllByRecursion (λ other. bytes_eq word other ≡ false)
        (map option_word others))
        is
        (IsDistinct-head bytes_eq (option_word choice) (map option_word others) row) in
        let left : in_order (choice ∷ others) more ≡ in_order others more =
        ap (λ value. listed_one choice value ++ in_order others more)
        (ap (λ word. value_of word more) is ∙ absent) in
        let right : in_order (choice ∷ others) (one ∷ more) ≡ one ∷ in_order others more =
        (λ i. option_to_list (option_map (λ word. (is i, word))
        (cond (same i) (Some one.1) (value_of (option_word choice) more)))
        ++ in_order-other others one more apart i) in
        rw (left, right) (IsPermutation-refl (one ∷ in_order others more))
    at false same rest =
        let prefix = listed_one choice (value_of (option_word choice) more) in
        let taken' : is_taken others one.0 one.1 ≡ true =
        subst (λ test. (test && is_value (value_kind choice) one.1 || is_taken others one.0 one.1)
        ≡ true) same taken in
        let right : in_order (choice ∷ others) (one ∷ more) ≡ prefix
        ++ in_order others (one ∷ more) =
        ap (λ test. listed_one choice (cond test (Some one.1) (value_of (option_word choice) more))
        ++ in_order others (one ∷ more)) same in
        rw right (IsPermutation-trans (one ∷ (prefix ++ in_order others more))
        (prefix ++ one ∷ in_order others more) (prefix ++ in_order others (one ∷ more))
        (IsPermutation-sym _ _ (IsPermutation-middle prefix one (in_order others more)))
        (IsPermutation-append_right prefix _ _ (rest taken')))

-- so options that a row takes are the same in its order
pub in_order-permutes : (choices : List Choice) (given : List Given)
    → IsDistinct bytes_eq (map option_word choices) → IsDistinct bytes_eq (keys_of given)
    → All (IsTaken choices) given → IsPermutation given (in_order choices given)
in_order-permutes choices [] row once taken = rw (in_order-none choices) (IsPermutation-refl [])
  where
    in_order-none : (choices : List Choice) → in_order choices [] ≡ []
    in_order-none [] = refl
    in_order-none (choice ∷ others) = in_order-none others
in_order-permutes choices (one ∷ more) row once taken =
    let absent = no_value (value_of one.0 more) (sym (has_option-value one.0 more)
    ∙ apart_none one.0 more (IsDistinct-head bytes_eq one.0 (keys_of more) once)) in
    IsPermutation-trans (one ∷ more) (one ∷ in_order choices more) (in_order choices (one ∷ more))
    (IsPermutation-cons one more (in_order choices more) (in_order-permutes choices more row
    (IsDistinct-tail bytes_eq one.0 (keys_of more) once)
    (All-tail (IsTaken choices) one more taken)))
    (in_order-more choices one more row (All-head (IsTaken choices) one more taken) absent)
