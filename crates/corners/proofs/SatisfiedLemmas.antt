-- What satisfies the combined list satisfies the list of each corner, and the other way round.
use Rattle.corners.proofs.Vocabulary.{◌≡◌, ◌<◌, ◌↔◌, ℕ, ℤ, ◌+ℤ◌, ◌≤ℤ◌, List, [], length, get_or, sym, subst, arith, All, ints, get_or_default, Constraint, IsSatisfied, Satisfies, scale_le, no_constraint, constraint_at, list_of, AreAlike, AreCorners, IsCombinedAt}

-- what is left after more is left after less
lesser_sum : (tail lesser greater head : ℤ) → lesser ≤ℤ greater → (tail +ℤ greater) ≤ℤ head
    → (tail +ℤ lesser) ≤ℤ head
lesser_sum tail lesser greater head below satisfied = omega (arith, ints)

module _ (scale : ℕ) (period : ℤ) (arrival : ℕ → ℤ) where
  -- a constraint with a lesser weight and else the same is satisfied too
  lesser_satisfied : (greater lesser : Constraint) → AreAlike greater lesser
      → lesser.weight ≤ℤ greater.weight → IsSatisfied scale period arrival greater
      → IsSatisfied scale period arrival lesser
  lesser_satisfied greater lesser alike below satisfied =
      rw (← alike.setup, ← alike.tail, ← alike.head)
      (lesser_sum _ _ _ _ (scale_le scale lesser.weight greater.weight below) satisfied)

  module _ (lists : List (List Constraint)) (constraints : List Constraint) (corners : List ℕ)
      (are_corners : AreCorners lists)
      (lengths : All (λ list. length list ≡ length constraints) lists)
      (combined : (place : ℕ) → place < length constraints
      → IsCombinedAt lists constraints corners place) where
    -- the constraint of a corner at a place is satisfied
    satisfied_at : Satisfies constraints scale period arrival → (corner place : ℕ)
        → corner < length lists → place < length constraints
        → IsSatisfied scale period arrival (constraint_at (list_of lists corner) place)
    satisfied_at satisfied corner place among within =
        let is = combined place within in
        let named = get_or corners place 0 in
        let greater = constraint_at (list_of lists named) place in
        let lesser = constraint_at (list_of lists corner) place in
        let parallel = are_corners.parallel named [] is.named.in_range corner [] among in
        let at_place : place < length (list_of lists named) =
        omega (arith, lengths named [] is.named.in_range) in
        lesser_satisfied greater lesser (parallel.alike place at_place)
        (is.named.greatest corner among)
        (subst (IsSatisfied scale period arrival) is.constraint
        (satisfied place no_constraint within))

    -- where the combined list is satisfied, each is
    each_satisfied : Satisfies constraints scale period arrival
        → All (λ list. Satisfies list scale period arrival) lists
    each_satisfied satisfied = λ corner other among place any within.
        let list = get_or_default lists corner other [] among in
        let at_place : place < length (list_of lists corner) = rw (sym list) within in
        rw (list, get_or_default (list_of lists corner) place any no_constraint at_place)
        (satisfied_at satisfied corner place among
        (omega (arith, lengths corner [] among)))

    -- and where each is satisfied, the combined list is
    all_satisfied : All (λ list. Satisfies list scale period arrival) lists
        → Satisfies constraints scale period arrival
    all_satisfied satisfied = search (arith, get_or_default)

    -- the combined list is satisfied exactly where each is
    pub satisfied_where_each : Satisfies constraints scale period arrival
        ↔ All (λ list. Satisfies list scale period arrival) lists
    satisfied_where_each = (each_satisfied, all_satisfied)
