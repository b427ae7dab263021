-- The pair on top of a queue.
use Rattle.topology.proofs.Vocabulary.{◌≡◌, false, ◌<◌, List, [], ◌∷◌, map, length, drop, get_or, Option, Some, None, refl, sym, ap, subst, arith, IsUpperBound, All, slice_get, IsPermutation, IfSome, IsSome, is_lt, length-map, All-cons, All-nil, IsPermutation-cons, IsPermutation-map, IsPermutation-refl, IsPermutation-trans, length_permutation, Pair, IsBefore, IsReplaced, by_turn}
use Rattle.std.specs.declared.cmp.Reverse.{Reverse}
use Rattle.std.proofs.lemmas.Grind.{common_steps}

-- what the order doesn't put before a pair isn't to be merged before it
not_before : (pair other : Pair) → is_lt (by_turn other pair) ≡ false → ¬ IsBefore other pair
not_before pair other is before = grind (arith, common_steps)

abbrev pub pair_in : Reverse Pair → Pair
pair_in item = item.0

-- the pair on top is to be merged first
pub least_on_top : (items : List (Reverse Pair)) (top : Reverse Pair)
    → IsUpperBound (λ x y. by_turn y.0 x.0) top items
    → All (λ other. ¬ IsBefore other top.0) (map pair_in items)
least_on_top [] top held = All-nil (λ other. ¬ IsBefore other top.0)
least_on_top (item ∷ items) top held =
    All-cons (λ other. ¬ IsBefore other top.0) item.0 (map pair_in items)
    (not_before top.0 item.0 held.0) (least_on_top items top held.1)

-- the one on top was taken away
pub record IsPopped (old new : List Pair) : Type 0 where
  pub top : Pair
  pub on_top : slice_get old 0 ≡ Some top
  pub before : IsPermutation old (top ∷ new)

pub popped : (old new : List (Reverse Pair)) (top : Reverse Pair) → top ≡ get_or old 0 top
    → IsPermutation old (top ∷ new) → IsPopped (map pair_in old) (map pair_in new)
popped [] new top is moved = absurd (omega (arith, length_permutation [] (top ∷ new) moved))
popped (item ∷ items) new top is moved = record {
  top = top.0;
  on_top = ap (λ (x : Reverse Pair). Some x.0) (sym is);
  before = IsPermutation-map pair_in (item ∷ items) (top ∷ new) moved;
}

-- what was taken from a queue that has a pair
pub taken_from : (now : List Pair) (old new : List (Reverse Pair)) (found : Option (Reverse Pair))
    → map pair_in old ≡ now → 0 < length now → (0 < length old → IsSome found)
    → IfSome found (λ top. top ≡ get_or old 0 top)
    → IfSome found (λ top. IsPermutation old (top ∷ new)) → IsPopped now (map pair_in new)
taken_from now old new found view some there is moved = subst
    (λ xs. IsPopped xs (map pair_in new)) view
    (at found (there (omega (arith, ap length view, length-map old pair_in, some))) is moved)
  where
    at : (o : Option (Reverse Pair)) → IsSome o → IfSome o (λ top. top ≡ get_or old 0 top)
        → IfSome o (λ top. IsPermutation old (top ∷ new))
        → IsPopped (map pair_in old) (map pair_in new)
    at None some is moved = absurd (cc)
    at (Some top) some is moved = popped old new top is moved

-- and nothing was put in its place
pub put_none : (old new : List Pair) → IsPopped old new → IsReplaced old new None
put_none old new taken = record {
  top = taken.top;
  rest = new;
  on_top = taken.on_top;
  before = taken.before;
  after = IsPermutation-refl new;
}

-- or another pair was
pub put_pair : (now : List Pair) (old rest new : List (Reverse Pair)) (item : Reverse Pair)
    → map pair_in old ≡ now → 0 < length now → IsPermutation (drop 1 old) rest
    → IsPermutation (item ∷ rest) new → IsReplaced now (map pair_in new) (Some item.0)
put_pair now [] rest new item view some left moved = absurd (omega (arith, some, ap length view))
put_pair now (top ∷ old) rest new item view some left moved = subst
    (λ xs. IsReplaced xs (map pair_in new) (Some item.0)) view (record {
      top = top.0;
      rest = map pair_in old;
      on_top = refl;
      before = IsPermutation-refl (top.0 ∷ map pair_in old);
      after = IsPermutation-map pair_in (item ∷ old) new
          (IsPermutation-trans (item ∷ old) (item ∷ rest) new
          (IsPermutation-cons item old rest left) moved);
    })
