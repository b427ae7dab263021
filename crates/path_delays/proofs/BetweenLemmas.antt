-- The delays of given pairs of registers, pair by pair.
use Rattle.path_delays.proofs.Vocabulary.{ℕ, ◌≡◌, ◌<◌, ◌≤◌, ◌+◌, ◌-◌, List, [], ◌∷◌, ◌++◌, length, drop, take, Option, Some, inl, inr, sym, ◌∙◌, ap, subst, arith, slice_get, slice_range, cases_lt, drop-take, take-append-drop, take-take, get_or_append_left, get_or_push, length_push, same_Some, slice_get-get_or, slice_get_within, Circuit, Tech, PairDelay, IsJoinedBy, AreDelaysBetween}

-- the items up to a place, and those from there to a later one
pub take_on : {X : Type 0} (xs : List X) (first end : ℕ) → first ≤ end
    → take first xs ++ slice_range xs first end ≡ take end xs
take_on xs first end after =
    let length_is : first + (end - first) ≡ end = omega arith in
    ap (λ ys. ys ++ slice_range xs first end) (sym (take-take first end xs after))
    ∙ (ap (λ ys. take first (take end xs) ++ ys)
    (sym (drop-take first (end - first) xs) ∙ ap (λ n. drop first (take n xs)) length_is)
    ∙ take-append-drop first (take end xs))

-- what stands before the last item
get_before : {X : Type 0} (xs : List X) (x : X) (place : ℕ) → place < length xs
    → slice_get (xs ++ x ∷ []) place ≡ slice_get xs place
get_before xs x place inside =
    slice_get-get_or (xs ++ x ∷ []) place x (omega (arith, length_push xs x))
    ∙ (ap Some (get_or_append_left xs (x ∷ []) x place inside)
    ∙ sym (slice_get-get_or xs place x inside))

-- the last item
get_last : {X : Type 0} (xs : List X) (x : X) (place : ℕ) → place ≡ length xs
    → slice_get (xs ++ x ∷ []) place ≡ Some x
get_last xs x place last =
    slice_get-get_or (xs ++ x ∷ []) place x (omega (arith, length_push xs x))
    ∙ ap Some (get_or_push xs x x place (sym last))

module _ (circuit : Circuit) (tech : Tech) where
  -- one pair more
  pub between_push : (pairs : List (ℕ × ℕ)) (pair : ℕ × ℕ) (delays : List (Option PairDelay))
      (joined : Option PairDelay) → IsJoinedBy circuit tech pair.0 pair.1 joined
      → AreDelaysBetween circuit tech pairs delays
      → AreDelaysBetween circuit tech (pairs ++ pair ∷ []) (delays ++ joined ∷ [])
  between_push pairs pair delays joined is_joined so_far = record {
    all = omega (arith, length_push pairs pair, length_push delays joined, so_far.all);
    each = λ place from to here. elim (cases_lt place (length pairs)) [
      | inl earlier ↦
          let inside : place < length delays = omega (arith, so_far.all) in
          rw (get_before delays joined place inside)
          (so_far.each place from to (sym (get_before pairs pair place earlier) ∙ here))
      | inr later ↦
          let within = slice_get_within (pairs ++ pair ∷ []) place (from, to) here in
          let last : place ≡ length pairs = omega (arith, length_push pairs pair) in
          let same : pair ≡ (from, to) =
          same_Some pair (from, to) (sym (get_last pairs pair place last) ∙ here) in
          rw (get_last delays joined place (omega (arith, so_far.all)))
          (subst (λ (p : ℕ × ℕ). IsJoinedBy circuit tech p.0 p.1 joined) same is_joined)
    ];
  }
