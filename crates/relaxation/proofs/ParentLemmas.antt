-- What the parents say after one register is raised, and that no cycle of parents loses.
use Rattle.relaxation.proofs.Vocabulary.{◌≡◌, ◌≢◌, ◌<◌, ◌∙◌, ℕ, zero, suc, ℤ, pos, ◌+ℤ◌, ◌≤ℤ◌, ◌<ℤ◌, List, [], ◌∷◌, length, set, Some, None, ◌⊎◌, inl, inr, sym, subst, ap, refl, arith, slice_get, option_and_then, cases_eq, get_or-set_same, get_or-set_other, length-set, slice_get-get_or, same_Some, none-some, ints, Constraint, Gains, gain_of, total_gain, parent_of, Climbs, value_of, AreParents, offer_of, GivesMore}

-- one register raised: it has what the constraint gives it, which is more than it had, and all else
-- stays
pub record IsRaise (constraints : List Constraint) (gains : Gains) (constraint : Constraint)
    (values : List ℤ) (parents : List ℕ) (later : List ℤ) (later_parents : List ℕ) : Type 0 where
  pub more : GivesMore gains values constraint
  pub here : value_of later constraint.head ≡ offer_of gains values constraint
  pub others : (register : ℕ) → register ≢ constraint.head
      → value_of later register ≡ value_of values register
  pub parent : parent_of constraints later_parents constraint.head ≡ Some constraint
  pub kept : (register : ℕ) → register ≢ constraint.head
      → parent_of constraints later_parents register ≡ parent_of constraints parents register

-- another entry stays where one is set
slice_get-set_other : (xs : List ℕ) (i j y : ℕ) → j ≢ i → slice_get (set xs i y) j ≡ slice_get xs j
slice_get-set_other [] i j y apart = refl
slice_get-set_other (x ∷ xs) zero zero y apart = absurd (apart refl)
slice_get-set_other (x ∷ xs) zero (suc j) y apart = refl
slice_get-set_other (x ∷ xs) (suc i) zero y apart = refl
slice_get-set_other (x ∷ xs) (suc i) (suc j) y apart =
    slice_get-set_other xs i j y (λ same. apart (ap suc same))

-- the entry that is set
slice_get-set_same : (xs : List ℕ) (i y : ℕ) → i < length xs → slice_get (set xs i y) i ≡ Some y
slice_get-set_same xs i y within = slice_get-get_or
    (set xs i y) i 0 (omega (arith, length-set xs i y)) ∙ ap Some (get_or-set_same xs i y 0 within)

-- setting a value and a parent is such a raise
pub IsRaise-set : (constraints : List Constraint) (gains : Gains) (place : ℕ)
    (constraint : Constraint) (values : List ℤ) (parents : List ℕ) → slice_get constraints place
    ≡ Some constraint → constraint.head < length values → constraint.head < length parents
    → GivesMore gains values constraint → IsRaise constraints gains constraint values parents (set
    values constraint.head (offer_of gains values constraint)) (set parents constraint.head place)
IsRaise-set constraints gains place constraint values parents at within parent_within more =
    record {
      more = more;
      here = get_or-set_same values constraint.head
          (offer_of gains values constraint) (pos 0) within;
      others = λ register apart. get_or-set_other values constraint.head register
          (offer_of gains values constraint) (pos 0) apart;
      parent = ap (option_and_then (slice_get constraints))
          (slice_get-set_same parents constraint.head place parent_within) ∙ at;
      kept = λ register apart. ap (option_and_then (slice_get constraints))
          (slice_get-set_other parents constraint.head register place apart);
    }

module _ {constraints : List Constraint} {gains : Gains} {constraint : Constraint} {values : List ℤ}
    {parents : List ℕ} {later : List ℤ} {later_parents : List ℕ}
    (raise : IsRaise constraints gains constraint values parents later later_parents) where
  -- no value falls
  pub rises : (register : ℕ) → value_of values register ≤ℤ value_of later register
  rises register = elim (cases_eq register constraint.head) [
    | inl same ↦ subst (λ r. value_of values r ≤ℤ value_of later r) (sym same)
        (omega (arith, ints, raise.more, raise.here))
    | inr other ↦ omega (arith, ints, raise.others register other)
  ]

  module _ (before : AreParents constraints gains values parents) where
    -- where the head has a parent, it is the constraint
    is_constraint : (parent : Constraint)
        → parent_of constraints later_parents constraint.head ≡ Some parent → constraint ≡ parent
    is_constraint parent here = same_Some constraint parent (sym raise.parent ∙ here)

    -- by the values before, no register has more than its parent gives it
    gave : (register : ℕ) (parent : Constraint) → parent_of constraints later_parents register
        ≡ Some parent → (value_of values register <ℤ (value_of values parent.tail
        +ℤ gain_of gains parent)) ⊎ ((parent_of constraints parents register ≡ Some parent)
        × (value_of values register ≤ℤ (value_of values parent.tail +ℤ gain_of gains parent)))
    gave register parent here = elim (cases_eq register constraint.head) [
      | inl same ↦
          let at_head : parent_of constraints later_parents constraint.head ≡ Some parent =
          subst (λ r. parent_of constraints later_parents r ≡ Some parent) same here in
          inl (subst (λ r. value_of values r <ℤ (value_of values parent.tail +ℤ gain_of
          gains parent)) (sym same) (subst (λ (c : Constraint). value_of values constraint.head <ℤ
          (value_of values c.tail +ℤ gain_of gains c)) (is_constraint parent at_head) raise.more))
      | inr other ↦
          let was : parent_of constraints parents register ≡ Some parent =
          sym (raise.kept register other) ∙ here in
          inr (was, before.given register parent was)
    ]

    -- whoever climbs has gained, or climbs parents of before
    climb_gains : (from : ℕ) (above : List Constraint) (to : ℕ) → Climbs constraints later_parents
        from above to → (value_of values from <ℤ (value_of values to +ℤ total_gain gains above))
        ⊎ (Climbs constraints parents from above to
        × (value_of values from ≤ℤ (value_of values to +ℤ total_gain gains above)))
    climb_gains from [] to same = inr (
      same,
      subst (λ r. value_of values from ≤ℤ (value_of values r +ℤ pos 0)) same (omega (arith, ints)),
    )
    climb_gains from (parent ∷ above) to (here, climb) =
        joined (gave from parent here) (climb_gains parent.tail above to climb)
      where
        -- of the first step and the rest
        joined : ((value_of values from <ℤ (value_of values parent.tail +ℤ gain_of gains parent))
            ⊎ ((parent_of constraints parents from ≡ Some parent) × (value_of values from
            ≤ℤ (value_of values parent.tail +ℤ gain_of gains parent)))) → ((value_of values
            parent.tail <ℤ (value_of values to +ℤ total_gain gains above)) ⊎ (Climbs constraints
            parents parent.tail above to × (value_of values parent.tail ≤ℤ (value_of values to +ℤ
            total_gain gains above)))) → (value_of values from <ℤ (value_of values to +ℤ total_gain
            gains (parent ∷ above))) ⊎ (Climbs constraints parents from (parent ∷ above) to
            × (value_of values from ≤ℤ (value_of values to +ℤ total_gain gains (parent ∷ above))))
        joined (inl less) (inl rest) = inl (omega (arith, ints))
        joined (inl less) (inr rest) = inl (omega (arith, ints, rest.1))
        joined (inr first) (inl rest) = inl (omega (arith, ints, first.1))
        joined
            (inr first) (inr rest) = inr ((first.0, rest.0), omega (arith, ints, first.1, rest.1))

    -- the parents are parents still
    pub AreParents-raise : AreParents constraints gains later later_parents
    AreParents-raise = record { heads = heads; given = given; rings = rings }
      where
        -- a parent leads to its register
        heads : (register : ℕ) (parent : Constraint)
            → parent_of constraints later_parents register ≡ Some parent → parent.head ≡ register
        heads register parent here = elim (cases_eq register constraint.head) [
          | inl same ↦ ap (λ (c : Constraint). c.head) (sym (is_constraint parent (subst
              (λ r. parent_of constraints later_parents r ≡ Some parent) same here))) ∙ sym same
          | inr other ↦ before.heads register parent (sym (raise.kept register other) ∙ here)
        ]

        -- no register has more than its parent gives it
        given : (register : ℕ) (parent : Constraint)
            → parent_of constraints later_parents register ≡ Some parent
            → value_of later register ≤ℤ (value_of later parent.tail +ℤ gain_of gains parent)
        given register parent here = elim (cases_eq register constraint.head) [
          | inl same ↦
              let is = is_constraint parent
              (subst (λ r. parent_of constraints later_parents r ≡ Some parent) same here) in
              subst (λ r. value_of later r ≤ℤ (value_of later parent.tail +ℤ gain_of gains parent))
              (sym same) (subst (λ (c : Constraint). value_of later constraint.head
              ≤ℤ (value_of later c.tail +ℤ gain_of gains c))
              is (omega (arith, ints, raise.here, rises constraint.tail)))
          | inr other ↦ omega (
            arith,
            ints,
            before.given register parent (sym (raise.kept register other) ∙ here),
            raise.others register other,
            rises parent.tail,
          )
        ]

        -- whoever comes back has gained
        rings : (register : ℕ) (above : List Constraint) → 0 < length above → Climbs
            constraints later_parents register above register → pos 0 <ℤ total_gain gains above
        rings register above some climb = elim (climb_gains register above register climb) [
          | inl less ↦ omega (arith, ints, less)
          | inr old ↦ before.rings register above some old.0
        ]

-- without parents nothing is said
pub AreParents-none : (constraints : List Constraint) (gains : Gains) (values : List ℤ)
    (parents : List ℕ) → ((register : ℕ) → parent_of constraints parents register ≡ None)
    → AreParents constraints gains values parents
AreParents-none constraints gains values parents none = record {
  heads = λ register parent here. absurd (nothing register parent here);
  given = λ register parent here. absurd (nothing register parent here);
  rings = rings;
}
  where
    -- no register has a parent
    nothing : (register : ℕ) (parent : Constraint)
        → parent_of constraints parents register ≡ Some parent → ⊥
    nothing register parent here = none-some parent (sym (none register) ∙ here)

    -- so no climb goes anywhere
    rings : (register : ℕ) (above : List Constraint) → 0 < length above
        → Climbs constraints parents register above register → pos 0 <ℤ total_gain gains above
    rings register [] some climb = absurd (omega arith)
    rings register (parent ∷ above) some (here, climb) = absurd (nothing register parent here)
