-- A further list is included in the combined list of those before it, place by place.
use Rattle.corners.proofs.Vocabulary.{◌≡◌, ◌<◌, ◌≤◌, ◌+◌, ◌∙◌, ℕ, ◌≤ℤ◌, ◌<ℤ◌, List, [], ◌∷◌, ◌++◌, length, get_or, inl, inr, sym, ap, arith, cases_lt, ints, get_or_append_left, get_or-set_same, get_or-set_other, length-append, length-set, All-nil, All-cons, All-append, get_or-append_seam, Constraint, Combined, IsCombined, no_constraint, constraint_at, list_of, weight_at, IsGreatestAt, IsCombinedAt}
use Rattle.corners.specs.Inclusions.{IsKept, IsTaken, IsIncludedAt}

module _ (lists : List (List Constraint)) (list : List Constraint) where
  -- the lists before the further one stay
  earlier_list : (corner : ℕ) → corner < length lists
      → list_of (lists ++ list ∷ []) corner ≡ list_of lists corner
  earlier_list corner within = get_or_append_left lists (list ∷ []) [] corner within

  -- and it stands after them
  further_list : list_of (lists ++ list ∷ []) (length lists) ≡ list
  further_list = get_or-append_seam lists list [] []

  -- there is one more
  one_more : length (lists ++ list ∷ []) ≡ length lists + 1
  one_more = simp length-append (omega arith)

  module _ (place : ℕ) where
    -- so the weights of the lists before stay
    earlier_weight : (corner : ℕ) → corner < length lists
        → weight_at (lists ++ list ∷ []) corner place ≡ weight_at lists corner place
    earlier_weight corner within =
        ap (λ one. (constraint_at one place).weight) (earlier_list corner within)

    -- and the further weight is its own
    further_weight : weight_at (lists ++ list ∷ []) (length lists) place
        ≡ (constraint_at list place).weight
    further_weight = ap (λ one. (constraint_at one place).weight) further_list

    module _ (corner : ℕ) (is : IsGreatestAt lists place corner) where
      -- the first with the greatest weight stays so where the further one asks for no more
      kept_greatest : (constraint_at list place).weight ≤ℤ weight_at lists corner place
          → IsGreatestAt (lists ++ list ∷ []) place corner
      kept_greatest enough =
          search (arith, earlier_weight, one_more, cases_lt, ints, further_weight)

      -- and the further one is where it asks for more
      taken_greatest : weight_at lists corner place <ℤ (constraint_at list place).weight
          → IsGreatestAt (lists ++ list ∷ []) place (length lists)
      taken_greatest more = search (arith, one_more, cases_lt, ints, further_weight, earlier_weight)

-- what is combined at a place depends on what stands there alone
same_place : (lists : List (List Constraint)) (old new : Combined) (place : ℕ)
    → constraint_at new.constraints place ≡ constraint_at old.constraints place
    → get_or new.corner place 0 ≡ get_or old.corner place 0
    → IsCombinedAt lists old.constraints old.corner place
    → IsCombinedAt lists new.constraints new.corner place
same_place lists old new place one other is =
    record { named = rw other is.named; constraint = rw (one, other) is.constraint }

-- the places before one are combined with the further list, and the others without
pub record IsIncluding (lists : List (List Constraint)) (list : List Constraint) (place : ℕ)
    (combined : Combined) : Type 0 where
  pub passed : (other : ℕ) → other < place
      → IsCombinedAt (lists ++ list ∷ []) combined.constraints combined.corner other
  pub rest : (other : ℕ) → place ≤ other → other < length list
      → IsCombinedAt lists combined.constraints combined.corner other

module _ (lists : List (List Constraint)) (list : List Constraint) (place : ℕ) where
  -- where the further constraint asks for no more, a further place is combined
  kept_next : (old new : Combined) → IsIncluding lists list place old → place < length list
      → IsKept (constraint_at list place) place old new → IsIncluding lists list (place + 1) new
  kept_next old new including within kept =
      let one = λ (other : ℕ). ap (λ all. constraint_at all other) kept.constraints in
      let both = λ (other : ℕ). ap (λ all. get_or all other 0) kept.corners in
      let is = including.rest place (omega arith) within in
      let corner = get_or old.corner place 0 in
      let weight : (constraint_at old.constraints place).weight ≡ weight_at lists corner place =
      ap (λ constraint. constraint.weight) is.constraint in
      let enough : (constraint_at list place).weight ≤ℤ weight_at lists corner place =
      omega (arith, ints, weight, kept.enough) in
      let here : IsCombinedAt (lists ++ list ∷ []) old.constraints old.corner place = record {
        named = kept_greatest lists list place corner is.named enough;
        constraint = is.constraint ∙ ap (λ one. constraint_at one place)
            (sym (earlier_list lists list corner is.named.in_range));
      } in
      record {
        passed = λ other before. same_place _ old new other (one other) (both other)
            (elim (cases_lt other place) [
              | inl earlier ↦ including.passed other earlier
              | inr later ↦
                  let last : other ≡ place = omega arith in
                  rw last here
            ]);
        rest = λ other after inside. same_place _ old new other (one other) (both other)
            (including.rest other (omega (arith, after)) inside);
      }

  -- and where it asks for more and is taken
  taken_next : (old new : Combined) → IsIncluding lists list place old → place < length list
      → length old.constraints ≡ length list → length old.corner ≡ length list
      → IsTaken (constraint_at list place) (length lists) place old new
      → IsIncluding lists list (place + 1) new
  taken_next old new including within constraints corners taken =
      let one = λ (other : ℕ) (apart : other ≡ place → ⊥).
      ap (λ all. constraint_at all other) taken.constraints
      ∙ get_or-set_other old.constraints place other (constraint_at list place) no_constraint
      apart in
      let both = λ (other : ℕ) (apart : other ≡ place → ⊥).
      ap (λ all. get_or all other 0) taken.corners
      ∙ get_or-set_other old.corner place other (length lists) 0 apart in
      let is = including.rest place (omega arith) within in
      let corner = get_or old.corner place 0 in
      let weight : (constraint_at old.constraints place).weight ≡ weight_at lists corner place =
      ap (λ one. one.weight) is.constraint in
      let more : weight_at lists corner place <ℤ (constraint_at list place).weight =
      omega (arith, ints, weight, taken.more) in
      let constraint : constraint_at new.constraints place ≡ constraint_at list place =
      ap (λ all. constraint_at all place) taken.constraints
      ∙ get_or-set_same old.constraints place (constraint_at list place) no_constraint
      (omega (arith, constraints, within)) in
      let named : get_or new.corner place 0 ≡ length lists =
      ap (λ all. get_or all place 0) taken.corners
      ∙ get_or-set_same old.corner place (length lists) 0 (omega (arith, corners, within)) in
      let here : IsCombinedAt (lists ++ list ∷ []) new.constraints new.corner place = record {
        named = rw named (taken_greatest lists list place corner is.named more);
        constraint = rw (named, further_list lists list) constraint;
      } in
      record {
        passed = λ other before. elim (cases_lt other place) [
          | inl earlier ↦
              let apart : other ≡ place → ⊥ = λ same. omega (arith, same, earlier) in
              same_place _ old new other (one other apart) (both other apart)
              (including.passed other earlier)
          | inr later ↦
              let last : other ≡ place = omega arith in
              rw last here
        ];
        rest = λ other after inside.
            let apart : other ≡ place → ⊥ = λ same. omega (arith, same, after) in
            same_place _ old new other (one other apart) (both other apart)
            (including.rest other (omega (arith, after)) inside);
      }

-- as far as a place, the list of the corner of this number is included
pub record IsIncludingFrom (list : List Constraint) (number place : ℕ) (old now : Combined)
    : Type 0 where
  pub constraints : length now.constraints ≡ length list
  pub corners : length now.corner ≡ length list
  pub all : (lists : List (List Constraint)) → length lists ≡ number → IsCombined lists old
      → IsIncluding lists list place now

module _ (list : List Constraint) (number : ℕ) (old : Combined) where
  -- none is yet
  pub including_none : length old.constraints ≡ length list → length old.corner ≡ length list
      → IsIncludingFrom list number 0 old old
  including_none constraints corners = record {
    constraints = constraints;
    corners = corners;
    all = λ lists numbered combined. record {
      passed = λ other before. absurd (omega (arith, before));
      rest = λ other after inside. combined.each other (omega (arith, constraints, inside));
    };
  }

  -- a turn includes one place more
  pub including_next : (place : ℕ) (now new : Combined) (next : Constraint)
      → IsIncludingFrom list number place old now → place < length list
      → next ≡ constraint_at list place → IsIncludedAt next number place now new
      → IsIncludingFrom list number (place + 1) old new
  including_next place now new next from within next_is (inl kept) = record {
    constraints = ap length kept.constraints ∙ from.constraints;
    corners = ap length kept.corners ∙ from.corners;
    all = λ lists numbered combined. kept_next lists list place now new
        (from.all lists numbered combined) within (rw (← next_is) kept);
  }
  including_next place now new next from within next_is (inr taken) = record {
    constraints = ap length taken.constraints ∙ length-set now.constraints place next
        ∙ from.constraints;
    corners = ap length taken.corners ∙ length-set now.corner place number ∙ from.corners;
    all = λ lists numbered combined. taken_next lists list place now new
        (from.all lists numbered combined) within from.constraints from.corners
        (rw (numbered, ← next_is) taken);
  }

  -- and in the end the list is one of those combined
  pub included : (new : Combined) → length old.constraints ≡ length list
      → IsIncludingFrom list number (length list) old new → (lists : List (List Constraint))
      → length lists ≡ number → IsCombined lists old → IsCombined (lists ++ list ∷ []) new
  included new constraints from lists numbered combined =
      let Long : List Constraint → Type 0 = λ one. length one ≡ length new.constraints in
      record {
        lengths = All-append Long lists (list ∷ [])
            (λ corner any within. combined.lengths corner any within
            ∙ constraints ∙ sym from.constraints)
            (All-cons Long list [] (sym from.constraints) (All-nil Long));
        named = from.corners ∙ sym from.constraints;
        each = λ place within.
            (from.all lists numbered combined).passed place
            (omega (arith, from.constraints, within));
      }
