-- Sweeps: which constraints may give more, by the sweeps in which registers changed last.
use Rattle.relaxation.proofs.Vocabulary.{◌≡◌, ◌≢◌, ◌<◌, ◌≤◌, ◌+◌, ◌==◌, ◌∙◌, ℕ, suc, zero, ℤ, ◌≤ℤ◌, get_or, cond, List, [], ◌∷◌, length, Option, Some, None, ◌⊎◌, inl, inr, sym, subst, ap, refl, arith, slice_get, cases_eq, eq-eqb, ne_eqb, same_Some, slice_get-get_or, ints, by_lt_z, Constraint, Gains, SatisfiesGains, parent_of, Climbs, value_of, offer_of, GivesMore, IsSweeping, IsReady, IsSwept}
use Rattle.relaxation.proofs.ParentLemmas.{IsRaise, AreParents-raise, AreParents-none, rises}

module _ {constraints : List Constraint} {gains : Gains} {sweep : ℕ} {Seen : ℕ → Type 0}
    {changed : Option ℕ} {values : List ℤ} {parents : List ℕ}
    (before : IsSweeping constraints gains sweep Seen changed values parents) where
  -- with fewer places seen
  pub IsSweeping-fewer : (Fewer : ℕ → Type 0) → ((place : ℕ) (constraint : Constraint) → Fewer place
      → slice_get constraints place ≡ Some constraint → Seen place)
      → IsSweeping constraints gains sweep Fewer changed values parents
  IsSweeping-fewer Fewer seen = record {
    are_parents = before.are_parents;
    last = before.last;
    latest = before.latest;
    changes = before.changes;
    waits = before.waits;
    seen = λ place constraint fewer here more. before.seen place constraint
        (seen place constraint fewer here) here more;
    above = before.above;
  }

  module _ (place : ℕ) (constraint : Constraint)
      (here : slice_get constraints place ≡ Some constraint) (Later : ℕ → Type 0)
      (seen : (other : ℕ) → Later other → (Seen other) ⊎ (other ≡ place)) where
    -- the constraint at a place
    is_constraint : (other : ℕ) (it : Constraint) → other ≡ place
        → slice_get constraints other ≡ Some it → constraint ≡ it
    is_constraint other it same there = same_Some
        constraint it (sym here ∙ subst (λ p. slice_get constraints p ≡ Some it) same there)

    -- a constraint that gives no more is seen
    pub IsSweeping-left : offer_of gains values constraint ≤ℤ value_of values constraint.head
        → IsSweeping constraints gains sweep Later changed values parents
    IsSweeping-left met = record {
      are_parents = before.are_parents;
      last = before.last;
      latest = before.latest;
      changes = before.changes;
      waits = before.waits;
      seen = λ other it later there more. elim (seen other later) [
        | inl was ↦ before.seen other it was there more
        | inr same ↦ absurd (omega (
          arith,
          ints,
          met,
          subst (λ (c : Constraint). GivesMore gains
              values c) (sym (is_constraint other it same there)) more,
        ))
      ];
      above = before.above;
    }

    module _ {later : List ℤ} {later_parents : List ℕ} (long : length later ≡ length values)
        (within : constraint.head < length values)
        (raise : IsRaise constraints gains constraint values parents later later_parents) where
      -- the sweep in which a register changed last now
      last_now : ℕ → ℕ
      last_now register = cond (register == constraint.head) sweep (before.last register)

      -- at the head it is this one
      at_head : last_now constraint.head ≡ sweep
      unfolding last_now
      at_head = ap (λ b. cond b sweep (before.last constraint.head))
          (eq-eqb constraint.head constraint.head refl)

      -- at the others it is as it was
      elsewhere : (register : ℕ) → register ≢ constraint.head
          → last_now register ≡ before.last register
      unfolding last_now
      elsewhere register other =
          ap (λ b. cond b sweep (before.last register)) (ne_eqb register constraint.head other)

      -- the same of a register that is the head
      same_last : (register : ℕ) → register ≡ constraint.head → last_now register ≡ sweep
      same_last register same = ap last_now same ∙ at_head

      -- no register changed later
      latest_now : (register : ℕ) → last_now register ≤ sweep
      latest_now register = elim (cases_eq register constraint.head) [
        | inl same ↦ omega (arith, same_last register same)
        | inr other ↦ omega (arith, elsewhere register other, before.latest register)
      ]

      -- no register changed earlier than it had
      no_earlier : (register : ℕ) → before.last register ≤ last_now register
      no_earlier register = elim (cases_eq register constraint.head) [
        | inl same ↦ omega (arith, same_last register same, before.latest register)
        | inr other ↦ omega (arith, elsewhere register other)
      ]

      -- what gives more now and whose tail stays gave more before
      gave : (it : Constraint) → it.tail ≢ constraint.head → GivesMore gains later it
          → GivesMore gains values it
      gave it other more = omega (arith, ints, rises raise it.head, raise.others it.tail other)

      -- what gives more has a tail that changed in the sweep before or later
      waits_now : (other : ℕ) (it : Constraint) → slice_get constraints other ≡ Some it
          → GivesMore gains later it → sweep ≤ last_now it.tail + 1
      waits_now other it there more = elim (cases_eq it.tail constraint.head) [
        | inl same ↦ omega (arith, same_last it.tail same)
        | inr apart ↦
            let waited = before.waits other it there (gave it apart more) in
            omega (arith, elsewhere it.tail apart)
      ]

      -- what is seen and gives more has a tail that changed in this sweep
      seen_now : (other : ℕ) (it : Constraint) → Later other → slice_get constraints other
          ≡ Some it → GivesMore gains later it → sweep ≤ last_now it.tail
      seen_now other it is_seen there more = elim (cases_eq it.tail constraint.head) [
        | inl same ↦ omega (arith, same_last it.tail same)
        | inr apart ↦ by_place apart (seen other is_seen)
      ]
        where
          -- by whether it was seen before or now
          by_place : it.tail ≢ constraint.head → (Seen other) ⊎ (other ≡ place)
              → sweep ≤ last_now it.tail
          by_place apart (inl was) =
              let was_seen = before.seen other it was there (gave it apart more) in
              omega (arith, elsewhere it.tail apart)
          by_place apart (inr same) = absurd (itself (is_constraint other it same there) apart more)
            where
              -- the constraint itself gives no more now
              itself : constraint ≡ it → it.tail ≢ constraint.head → GivesMore gains later it → ⊥
              itself is far gives =
                  let mine : GivesMore gains later constraint =
                  subst (λ (c : Constraint). GivesMore gains later c) (sym is) gives in
                  let other_tail : constraint.tail ≢ constraint.head =
                  subst (λ (c : Constraint). c.tail ≢ constraint.head) (sym is) far in
                  omega (arith, ints, raise.here, raise.others constraint.tail other_tail, mine)

      -- above a register that changed is one that changed a sweep before or later
      above_now : (register : ℕ) → 0 < last_now register
          → (parent : Constraint) × (parent_of constraints later_parents register ≡ Some parent)
          × (last_now register ≤ last_now parent.tail + 1)
      above_now register changed_once = elim (cases_eq register constraint.head) [
        | inl same ↦
            let waited = before.waits place constraint here raise.more in (
              constraint,
              subst (λ r. parent_of constraints later_parents r ≡ Some constraint)
                  (sym same) raise.parent,
              omega (arith, same_last register same, no_earlier constraint.tail),
            )
        | inr other ↦
            let found = before.above register (omega (arith, elsewhere register other)) in (
              found.0,
              raise.kept register other ∙ found.1,
              omega (arith, elsewhere register other, no_earlier found.0.tail, found.2),
            )
      ]

      -- a constraint that gives more is seen, and its head changed
      pub IsSweeping-raised
          : IsSweeping constraints gains sweep Later (Some constraint.head) later later_parents
      IsSweeping-raised = record {
        are_parents = AreParents-raise raise before.are_parents;
        last = last_now;
        latest = latest_now;
        changes = (omega (arith, long, within), at_head);
        waits = waits_now;
        seen = seen_now;
        above = above_now;
      }

-- before the first sweep, where there are no parents
pub IsReady-first : (constraints : List Constraint) (gains : Gains) (values : List ℤ)
    (parents : List ℕ) → ((register : ℕ) → parent_of constraints parents register ≡ None)
    → IsReady constraints gains 1 values parents
IsReady-first constraints gains values parents none = record {
  are_parents = AreParents-none constraints gains values parents none;
  last = λ register. 0;
  latest = λ register. omega arith;
  changes = λ register. omega arith;
  waits = λ place constraint here more. omega arith;
  seen = λ place constraint seen here more. absurd seen;
  above = λ register changed_once. absurd (omega (arith, changed_once));
}

-- before the next sweep
pub IsReady-next : (constraints : List Constraint) (gains : Gains)
    (sweep register : ℕ) (values : List ℤ) (parents : List ℕ) → IsSwept constraints gains
    sweep (Some register) values parents → IsReady constraints gains (sweep + 1) values parents
IsReady-next constraints gains sweep register values parents swept = record {
  are_parents = swept.are_parents;
  last = swept.last;
  latest = λ other. omega (arith, swept.latest other);
  changes = λ other. omega (arith, swept.latest other);
  waits = λ place constraint here more. omega (arith, swept.seen place constraint tt here more);
  seen = λ place constraint seen here more. absurd seen;
  above = swept.above;
}

-- a sweep in which nothing changed leaves no constraint that gives more
met_all : (constraints : List Constraint) (gains : Gains) (sweep : ℕ) (values : List ℤ)
    (parents : List ℕ) → IsSwept constraints gains sweep None values parents → (place : ℕ)
    (constraint : Constraint) → slice_get constraints place ≡ Some constraint
    → offer_of gains values constraint ≤ℤ value_of values constraint.head
met_all constraints gains sweep values parents swept place constraint here = by_lt_z
    (value_of values constraint.head) (offer_of gains values constraint) (λ more. absurd (omega (
      arith,
      swept.seen place constraint tt here more,
      swept.changes constraint.tail,
    ))) (λ met. met)

-- so the values satisfy all of them
pub SatisfiesGains-swept : (constraints : List Constraint) (gains : Gains) (sweep : ℕ)
    (values : List ℤ) (parents : List ℕ) → IsSwept constraints gains sweep None values parents
    → SatisfiesGains constraints gains 1 (value_of values)
SatisfiesGains-swept constraints gains sweep values parents swept place default within =
    let it : Constraint = get_or constraints place default in
    omega (
      arith,
      ints,
      met_all constraints gains sweep values parents swept place it
          (slice_get-get_or constraints place default within),
    )

-- above a register that changed in a sweep are as many parents as there were sweeps
pub parents_above : (constraints : List Constraint) (gains : Gains) (sweep : ℕ) (Seen : ℕ → Type 0)
    (changed : Option ℕ) (values : List ℤ) (parents : List ℕ)
    (sweeping : IsSweeping constraints gains sweep Seen changed values parents)
    (count register : ℕ) → count ≤ sweeping.last register → (to : ℕ) × (above : List Constraint)
    × (length above ≡ count) × Climbs constraints parents register above to
parents_above constraints gains sweep Seen changed values parents sweeping zero register enough =
    (register, [], refl, refl)
parents_above constraints gains sweep Seen changed values parents sweeping (suc count) register
    enough =
    let found = sweeping.above register (omega arith) in
    let rest = parents_above constraints gains sweep Seen changed values parents sweeping count
    found.0.tail (omega (arith, found.2)) in
    (rest.0, found.0 ∷ rest.1, ap suc rest.2, (found.1, rest.3))
