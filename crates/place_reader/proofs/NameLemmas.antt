-- Names of nodes that are put into a set.
use Rattle.place_reader.proofs.Vocabulary.{◌≡◌, ◌≤◌, ℕ, ◌+◌, Bool, if◌then◌else◌, length, length-append, arith, true, false, ◌||◌, List, [], ◌∷◌, ◌++◌, take, Some, refl, sym, ap, ◌∙◌, bytes_eq, slice_get, or-false, take_more, slice_get_within, get_or_from_slice_get, list_any-append, AreSameNames, is_among}
use Rattle.std.specs.Cmp.Lexicographic.{nat_list_eq_equiv}
use Rattle.std.proofs.lemmas.Map.Steps.{list_any_congr}
use Rattle.name_set.specs.Names.{with_name}

-- a name is one of these with one more
among_push : (names : List (List ℕ)) (name other : List ℕ)
    → is_among (names ++ name ∷ []) other ≡ (is_among names other || bytes_eq other name)
among_push names name other = list_any-append (bytes_eq other) names (name ∷ [])
    ∙ ap (λ b. is_among names other || b) (or-false (bytes_eq other name))

-- a name that is there already
among_again : (names : List (List ℕ)) (name : List ℕ) → is_among names name ≡ true
    → AreSameNames names (names ++ name ∷ [])
among_again names name there other =
    sym (among_push names name other ∙ at (bytes_eq other name) refl)
  where
    at : (b : Bool) → bytes_eq other name ≡ b → (is_among names other || b) ≡ is_among names other
    at false differs = or-false (is_among names other)
    at true same =
        let here : is_among names other ≡ true =
        list_any_congr nat_list_eq_equiv other name names same ∙ there in
        rw here refl

-- one more name on both sides
same_names_push : (names others : List (List ℕ)) (name : List ℕ) → AreSameNames names others
    → AreSameNames (names ++ name ∷ []) (others ++ name ∷ [])
same_names_push names others name same other = among_push names name other
    ∙ ap (λ b. b || bytes_eq other name) (same other) ∙ sym (among_push others name other)

-- a name is put in on both sides
pub names_with : (names new others : List (List ℕ)) (name : List ℕ) → AreSameNames names others
    → new ≡ with_name names name → AreSameNames new (others ++ name ∷ [])
names_with names new others name same put other =
    ap (λ ns. is_among ns other) put ∙ at (is_among names name) refl
    ∙ same_names_push names others name same other
  where
    at : (b : Bool) → is_among names name ≡ b
        → is_among (if b then names else names ++ name ∷ []) other
        ≡ is_among (names ++ name ∷ []) other
    at true there = among_again names name there other
    at false absent = refl

-- the next name is put in
pub names_next : (names new all : List (List ℕ)) (place : ℕ) (name : List ℕ)
    → slice_get all place ≡ Some name → AreSameNames names (take place all)
    → new ≡ with_name names name → AreSameNames new (take (place + 1) all)
names_next names new all place name here before put other =
    let more : take (place + 1) all ≡ take place all ++ name ∷ [] =
    take_more all place name (slice_get_within all place name here)
    ∙ ap (λ n. take place all ++ n ∷ []) (get_or_from_slice_get all place name name here) in
    names_with names new (take place all) name before put other
    ∙ ap (λ ns. is_among ns other) (sym more)

-- and they are one more at most
pub with_name-length : (names : List (List ℕ)) (name : List ℕ)
    → length (with_name names name) ≤ length names + 1
with_name-length names name = at (is_among names name)
  where
    at : (b : Bool) → length (if b then names else names ++ name ∷ []) ≤ length names + 1
    at true = omega arith
    at false = omega (arith, length-append names (name ∷ []))
