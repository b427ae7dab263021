-- What the first place that passes a test says of a list and its parts.
use Rattle.cts_base.proofs.Vocabulary.{ℕ, suc, ◌≡◌, ◌<◌, ◌+◌, Bool, not, Some, None, List, [], ◌∷◌, length, take, drop, refl, sym, arith, get_or, drop-cons, nat_tests, slice_split, position_or_len, position, drop-drop, slice_split_first, slice_split_none, fails_before_first, prefix_len-le-length}

-- the first place that passes, where there is one
pub place_of_Some : (p : ℕ → Bool) (xs : List ℕ) (i : ℕ) → position p xs ≡ Some i
    → (position_or_len p xs ≡ i) × (i < length xs)
place_of_Some p xs i found = (grind (arith, nat_tests), grind (arith, nat_tests))

-- and where there is none
pub place_of_None : (p : ℕ → Bool) (xs : List ℕ) → position p xs ≡ None
    → position_or_len p xs ≡ length xs
place_of_None p xs none = grind (arith, nat_tests, prefix_len-le-length (λ x. not (p x)) xs)

-- the first part ends at the first place that passes
pub slice_split-cut : (p : ℕ → Bool) (xs : List ℕ) (i : ℕ) → position p xs ≡ Some i
    → slice_split p xs ≡ take i xs ∷ slice_split p (drop 1 (drop i xs))
slice_split-cut p xs i found =
    let at : position_or_len p xs ≡ i = (place_of_Some p xs i found).0 in
    let within : position_or_len p xs < length xs = omega (arith, (place_of_Some p xs i found).1) in
    let after : drop (i + 1) xs ≡ drop 1 (drop i xs) = sym (drop-drop 1 i xs) in
    rw (slice_split_first p xs 0 within, at, after) refl

-- a list in which none passes is one part
pub slice_split-whole : (p : ℕ → Bool) (xs : List ℕ) → position p xs ≡ None
    → slice_split p xs ≡ xs ∷ []
slice_split-whole p xs none = slice_split_none p xs
    (λ k d within. fails_before_first p xs k d (omega (arith, place_of_None p xs none)))

-- one place further, past one more item
pub drop-one_more : (n x : ℕ) (xs : List ℕ) → drop (1 + n) (x ∷ xs) ≡ drop n xs
drop-one_more n x xs = let more : 1 + n ≡ suc n = omega arith in rw more refl

-- an item, and what stands after it
pub drop-cons_then : (xs : List ℕ) (i : ℕ) → i < length xs
    → drop i xs ≡ get_or xs i 0 ∷ drop 1 (drop i xs)
drop-cons_then xs i within = rw (drop-cons xs i 0 within) refl
