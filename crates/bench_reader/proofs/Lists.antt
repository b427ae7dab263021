-- Lists that grow at their end.
use Rattle.bench_reader.proofs.Vocabulary.{◌≡◌, zero, suc, get_or, AllPairs, IsSome, List, [], ◌∷◌, length, Option, Some, None, IfSome, All, refl, sym, ap, subst, arith, map, filter_map, cons_option, All-nil, All-cons, All-head, All-tail, length-map, get_or-map}

module _ {X Y : Type 0} (pick : X → Option Y) where
  -- what is picked from the items has P, where it has from each
  pub All-filter_map : (Q : X → Type 0) (P : Y → Type 0) → ((x : X) → Q x → IfSome (pick x) P)
      → (xs : List X) → All Q xs → All P (filter_map pick xs)
  All-filter_map Q P gives [] all = All-nil P
  All-filter_map Q P gives (x ∷ xs) all = at (pick x) (gives x (All-head Q x xs all))
      (All-filter_map Q P gives xs (All-tail Q x xs all))
    where
      at : (o : Option Y) → IfSome o P → All P (filter_map pick xs)
          → All P (cons_option o (filter_map pick xs))
      at None some rest = rest
      at (Some y) some rest = All-cons P y _ some rest

-- how many are picked, where each item gives something
pub length-filter_map : {X Y : Type 0} (pick : X → Option Y) (xs : List X)
    → All (λ x. IsSome (pick x)) xs → length (filter_map pick xs) ≡ length xs
length-filter_map pick [] all = refl
length-filter_map {X} {Y} pick (x ∷ xs) all = at (pick x) (All-head (λ y. IsSome (pick y)) x xs all)
    (length-filter_map pick xs (All-tail (λ y. IsSome (pick y)) x xs all))
  where
    at : (o : Option Y) → IsSome o → length (filter_map pick xs) ≡ length xs
        → length (cons_option o (filter_map pick xs)) ≡ suc (length xs)
    at None some rest = cc
    at (Some y) some rest = ap suc rest

-- pairs of items that a function made
pub AllPairs-map : {X Y : Type 0} (R : Y → Y → Type 0) (f : X → Y) (xs : List X)
    → AllPairs (λ a b. R (f a) (f b)) xs → AllPairs R (map f xs)
AllPairs-map R f [] pairs = λ i j d before within. absurd (omega arith)
AllPairs-map R f (x ∷ xs) pairs = λ i j d before within.
    let at_i : get_or (map f (x ∷ xs)) i d ≡ f (get_or (x ∷ xs) i x) =
    get_or-map f (x ∷ xs) i x d (omega (arith, length-map (x ∷ xs) f)) in
    let at_j : get_or (map f (x ∷ xs)) j d ≡ f (get_or (x ∷ xs) j x) =
    get_or-map f (x ∷ xs) j x d (omega (arith, length-map (x ∷ xs) f)) in
    subst (λ y. R y (get_or (map f (x ∷ xs)) j d)) (sym at_i)
    (subst (R (f (get_or (x ∷ xs) i x))) (sym at_j)
    (pairs i j x before (omega (arith, length-map (x ∷ xs) f))))

-- pairs with one more item before
pub AllPairs-cons : {X : Type 0} (R : X → X → Type 0) (x : X) (xs : List X) → All (R x) xs
    → AllPairs R xs → AllPairs R (x ∷ xs)
AllPairs-cons R x xs prefix pairs zero zero d before within = absurd (omega arith)
AllPairs-cons R x xs prefix pairs zero (suc j) d before within = prefix j d (omega arith)
AllPairs-cons R x xs prefix pairs (suc i) zero d before within = absurd (omega arith)
AllPairs-cons R x xs prefix pairs (suc i) (suc j) d before within =
    pairs i j d (omega arith) (omega arith)
