-- Tests of items that a function made.
use Rattle.cts_base.proofs.Vocabulary.{◌≡◌, Bool, ◌||◌, List, [], ◌∷◌, map, refl, ap, list_any}

-- an item passes where it did before
pub list_any-map : {X Y : Type 0} (f : X → Y) (test : Y → Bool) (xs : List X)
    → list_any test (map f xs) ≡ list_any (λ x. test (f x)) xs
list_any-map f test [] = refl
list_any-map f test (x ∷ xs) = ap (λ b. test (f x) || b) (list_any-map f test xs)
