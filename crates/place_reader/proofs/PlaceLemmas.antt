-- The places that lines give, and what is kept of them.
use Rattle.place_reader.proofs.Vocabulary.{◌≡◌, ℕ, ◌+◌, Bool, true, false, ◌||◌, cond, IsTrue, List, [], ◌∷◌, ◌++◌, length, Option, Some, None, Result, Ok, Err, refl, sym, ap, ◌∙◌, append_assoc, append-nil, lookup, option_map, option_or, option_to_list, result_ok, bytes_eq, or-false, list_any-append, bytes_eq-Decides, NumberFault, Point, point_of, Entry, Blank, Header, Stands, entry_after, entry_of_words, has_begun, has_words, words_in, place_entry_fault, place_line_fault, is_among, node_fault, place_by, placed_at, places_after, AreSamePlaces, HasTaken, TakesLine, kept_at, wanted_place, is_written}
use Rattle.place_reader.specs.declared.placing.Placing.{Placing}

-- a look-up in a list and then in another
lookup-append : {K X : Type 0} (test : K → Bool) (xs ys : List (K × X))
    → lookup test (xs ++ ys) ≡ option_or (lookup test xs) (lookup test ys)
lookup-append test [] ys = refl
lookup-append test (x ∷ xs) ys = at (test x.0) (lookup-append test xs ys) where
  at : (b : Bool) → lookup test (xs ++ ys) ≡ option_or (lookup test xs) (lookup test ys)
      → cond b (Some x.1) (lookup test (xs ++ ys))
      ≡ option_or (cond b (Some x.1) (lookup test xs)) (lookup test ys)
  at true rest = refl
  at false rest = rest

-- one more line gives its place last
places_push : (earlier lines : List (List ℕ)) (line : List ℕ)
    → places_after earlier (lines ++ line ∷ [])
    ≡ places_after earlier lines ++ option_to_list (place_by (entry_after (earlier ++ lines) line))
places_push earlier [] line =
    append-nil (option_to_list (place_by (entry_after earlier line)))
    ∙ ap (λ lines. option_to_list (place_by (entry_after lines line))) (sym (append-nil earlier))
places_push earlier (first ∷ lines) line =
    let here = option_to_list (place_by (entry_after earlier first)) in
    ap (λ places. here ++ places) (places_push (earlier ++ first ∷ []) lines line
    ∙ ap (λ before. places_after (earlier ++ first ∷ []) lines
    ++ option_to_list (place_by (entry_after before line)))
    (append_assoc earlier (first ∷ []) lines))
    ∙ sym (append_assoc here (places_after (earlier ++ first ∷ []) lines)
    (option_to_list (place_by (entry_after (earlier ++ first ∷ lines) line))))

-- it may be the first that isn't blank
begun_push : (earlier : List (List ℕ)) (line : List ℕ)
    → has_begun (earlier ++ line ∷ []) ≡ (has_begun earlier || has_words (words_in line))
begun_push earlier line = list_any-append (λ one. has_words (words_in one)) earlier (line ∷ [])
    ∙ ap (λ b. has_begun earlier || b) (or-false (has_words (words_in line)))

module _ (wanted : List ℕ → Bool) where
  -- the place of a node that isn't wanted is of none that is
  wanted_alone : (entry : Entry) (name : List ℕ) → IsTrue (wanted name)
      → placed_at (wanted_place wanted entry) name
      ≡ placed_at (option_to_list (place_by (Some entry))) name
  wanted_alone Blank name wants = refl
  wanted_alone Header name wants = refl
  wanted_alone (Stands node) name wants = at (wanted node.name) refl (point_of node.x node.y)
    where
      by : (b : Bool) → bytes_eq name node.name ≡ b → wanted node.name ≡ false → (point : Point)
          → None ≡ cond b (Some point) None
      by false other passed point = refl
      by true same passed point =
          let names = (bytes_eq-Decides name node.name).0 same in
          let both = ap wanted names in
          cc (both, wants, passed)

      at : (b : Bool) → wanted node.name ≡ b → (point : Result Point NumberFault)
          → placed_at
          (cond b (option_to_list (option_map (λ p. (node.name, p)) (result_ok point))) []) name
          ≡ placed_at (option_to_list (option_map (λ p. (node.name, p)) (result_ok point))) name
      at true known point = refl
      at false passed (Err fault) = refl
      at false passed (Ok point) = by (bytes_eq name node.name) refl passed point

  module _ (place : List ℕ → Option Point) (others : List (List ℕ × Point))
      (same : AreSamePlaces wanted place (placed_at others))
    where
      -- of a line only the place of a wanted node matters
      same_more : (entry : Entry) → AreSamePlaces wanted
          (λ name. option_or (place name) (placed_at (wanted_place wanted entry) name))
          (placed_at (others ++ option_to_list (place_by (Some entry))))
      same_more entry name wants =
          (λ i. option_or (same name wants i) (wanted_alone entry name wants i))
          ∙ sym (lookup-append (bytes_eq name) others (option_to_list (place_by (Some entry))))

      -- and the same is wrong with a line
      same_fault : (number : ℕ) (entry : Entry)
          → place_entry_fault wanted place number (Some entry)
          ≡ place_entry_fault wanted (placed_at others) number (Some entry)
      same_fault number Blank = refl
      same_fault number Header = refl
      same_fault number (Stands node) = at (wanted node.name) refl
        where
          at : (b : Bool) → wanted node.name ≡ b
              → cond b (node_fault number (point_of node.x node.y)
              (place node.name)) None
              ≡ cond b (node_fault number (point_of node.x node.y)
              (placed_at others node.name)) None
          at true wants = ap (node_fault number (point_of node.x node.y)) (same node.name wants)
          at false passed = refl

module _ {start old : Placing} {earlier : List (List ℕ)} (line : List ℕ) (entry : Entry)
    (has : HasTaken start old earlier)
    (said : Some entry ≡ entry_of_words old.begun (words_in line)) where
  -- the line is this after those before it
  entry_is : entry_after earlier line ≡ Some entry
  entry_is = sym (said ∙ ap (λ b. entry_of_words b (words_in line)) has.begun)

  -- so this is wrong with it
  pub fault_is : (number : ℕ) → number ≡ length earlier + 1
      → place_entry_fault (is_among old.wanted) (kept_at old) number (Some entry)
      ≡ place_line_fault (is_among start.wanted) earlier line
  fault_is number is =
      ap (λ names. place_entry_fault (is_among names) (kept_at old) number (Some entry)) has.wanted
      ∙ same_fault (is_among start.wanted) (kept_at old) (places_after [] earlier) has.places number
      entry
      ∙ (λ i. place_entry_fault (is_among start.wanted) (placed_at (places_after [] earlier))
      (is i) (sym entry_is i))

  -- and this is kept of it
  pub line_taken : {new : Placing} {number : ℕ} → new.wanted ≡ old.wanted
      → is_written entry ≡ has_words (words_in line) → TakesLine old new number entry
      → HasTaken start new (earlier ++ line ∷ [])
  line_taken {new} {number} names written takes = record {
    wanted = names ∙ has.wanted;
    begun = takes.begun ∙ (λ i. has.begun i || written i) ∙ sym (begun_push earlier line);
    places = λ name wants.
        let given = takes.placed name ∙ ap (λ names. option_or (kept_at old name)
        (placed_at (wanted_place (is_among names) entry) name)) has.wanted in
        let told : places_after [] (earlier ++ line ∷ [])
        ≡ places_after [] earlier ++ option_to_list (place_by (Some entry)) =
        places_push [] earlier line
        ∙ ap (λ e. places_after [] earlier ++ option_to_list (place_by e)) entry_is in
        given ∙ same_more (is_among start.wanted) (kept_at old) (places_after [] earlier)
        has.places entry name wants ∙ ap (λ places. placed_at places name) (sym told);
  }
