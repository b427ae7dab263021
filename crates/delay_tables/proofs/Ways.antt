-- Names that lead to a table, one after the other.
use Rattle.delay_tables.proofs.Vocabulary.{◌≡◌, ℕ, ◌+◌, ◌<◌, ◌≤◌, List, [], ◌∷◌, ◌++◌, length, drop, get_or, Bor, sym, ap, ◌∙◌, append_assoc, append-nil, drop_more, drop_all, flat_map, texts}

-- each name with a dot after it
abbrev pub dots : List (Bor (List ℕ)) → List ℕ
dots way = flat_map (λ table. table ++ 46 ∷ []) (texts way)

-- the next name and its dot are after those before
pub dots_more : (text : List ℕ) (way : List (Bor (List ℕ))) (place : ℕ) (other : Bor (List ℕ))
    (name : List ℕ) → place < length way → name ≡ (get_or way place other).now
    → text ++ dots (drop place way) ≡ dots way
    → ((text ++ name) ++ 46 ∷ []) ++ dots (drop (place + 1) way) ≡ dots way
dots_more text way place other name within is so_far =
    let here : dots (drop place way) ≡ (name ++ 46 ∷ []) ++ dots (drop (place + 1) way)
    = ap dots (drop_more way place other within)
    ∙ ap (λ x. (x ++ 46 ∷ []) ++ dots (drop (place + 1) way)) (sym is) in
    rw (
      append_assoc text name (46 ∷ []),
      append_assoc text (name ++ 46 ∷ []) (dots (drop (place + 1) way)),
    ) (ap (λ x. text ++ x) (sym here) ∙ so_far)

-- after the last name there are all
pub dots_all : (text : List ℕ) (way : List (Bor (List ℕ))) (place : ℕ) → length way ≤ place
    → text ++ dots (drop place way) ≡ dots way → text ≡ dots way
dots_all text way place past so_far = sym (append-nil text)
    ∙ (ap (λ rest. text ++ dots rest) (sym (drop_all place way past)) ∙ so_far)
