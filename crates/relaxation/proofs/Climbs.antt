-- Climbs from register to register by their parents: they go one way only, and one of as many steps
-- as there are registers ends on a ring.
use Rattle.relaxation.proofs.Vocabulary.{ℕ, suc, ℤ, pos, ◌+ℤ◌, ◌*ℤ◌, ◌≤ℤ◌, ◌<ℤ◌, ◌≡◌, ◌≢◌, ◌<◌, ◌≤◌, List, [], ◌∷◌, ◌++◌, length, map, Option, Some, None, refl, sym, ◌∙◌, ap, subst, arith, All, AllPairs, ⊎_elim, ◌⊎◌, inl, inr, eqb, true, Contains, cases_eq, eqb-true, ints, slice_get_within, get_or_from_slice_get, length-append, length-map, get_or_default, list_any, option_and_then, AreSmallConstraints, IsSmallConstraint, Constraint, Gains, AdmitsGains, SatisfiesGains, gain_of, total_gain, AreParents, Climbs, EndsClimb, HaveOwnHeads, parent_of}
use Rattle.std.proofs.lemmas.Bool.Decides.{Decides-eqb}
use Rattle.std.proofs.lemmas.List.Elements.{All-nil, All-cons, All-contains}
use Rattle.std.proofs.lemmas.List.Kept.{AllPairs-cons}
use Rattle.std.proofs.lemmas.List.Folds.{Any-from_list_any}
use Rattle.std.proofs.lemmas.Map.Made.{IsDistinct-from_AllPairs}
use Rattle.std.proofs.lemmas.Map.Steps.{length-le_from_distinct_below}
use Rattle.std.specs.Prelude.{slice_get}

-- a parent stands where it is said to stand
pub parent_place : (constraints : List Constraint) (parents : List ℕ) (register : ℕ)
    → (parent : Constraint) → parent_of constraints parents register ≡ Some parent → (place : ℕ)
    × (slice_get parents register ≡ Some place) × (slice_get constraints place ≡ Some parent)
parent_place constraints parents register parent is = at (slice_get parents register) refl is
  where
    at : (o : Option ℕ) → slice_get parents register
        ≡ o → option_and_then (slice_get constraints) o ≡ Some parent → (place : ℕ)
        × (slice_get parents register ≡ Some place) × (slice_get constraints place ≡ Some parent)
    at None here is = cc
    at (Some place) here is = (place, here, is)

-- the tails of a climb, that is where its steps lead
abbrev tails : List Constraint → List ℕ
tails above = map (λ step. step.tail) above

-- what holds of each constraint holds of the one at a place
pub all_at : (P : Constraint → Type 0) (constraints : List Constraint) → All P constraints → (place
    : ℕ) → (constraint : Constraint) → slice_get constraints place ≡ Some constraint → P constraint
all_at P constraints each place constraint here =
    subst P (get_or_from_slice_get constraints place constraint constraint here)
    (each place constraint (slice_get_within constraints place constraint here))

module _ (constraints : List Constraint) (parents : List ℕ) where
  -- a step may be added at the end
  pub climbs_push : (from : ℕ) (above : List Constraint) (to : ℕ) (next : Constraint)
      → Climbs constraints parents from above to → parent_of constraints parents to ≡ Some next
      → Climbs constraints parents from (above ++ next ∷ []) next.tail
  climbs_push from [] to next same reads =
      (subst (λ r. parent_of constraints parents r ≡ Some next) (sym same) reads, refl)
  climbs_push from (step ∷ above) to next (first, rest) reads =
      (first, climbs_push step.tail above to next rest reads)

  -- where a climb leads back to its register, so does one from each register further up
  moved_ring : (from : ℕ) (ring above : List Constraint) (to : ℕ) → 0 < length ring → Climbs
      constraints parents from ring from → Climbs constraints parents from above to → (other : List
      Constraint) × (length other ≡ length ring) × Climbs constraints parents to other to
  moved_ring from ring [] to some round same =
      (ring, refl, subst (λ r. Climbs constraints parents r ring r) same round)
  moved_ring from [] (step ∷ above) to some round climb = absurd (omega arith)
  moved_ring from (first ∷ ring) (step ∷ above) to some (reads, round) (same, climb) =
      let one : first ≡ step = cc in
      let next = climbs_push first.tail ring from first round reads in
      let here = subst (λ c. Climbs constraints parents c.tail (ring ++ first ∷ []) c.tail) one
      next in
      let size = length-append ring (first ∷ []) in
      let more = moved_ring step.tail (ring ++ first ∷ []) above to (omega arith) here climb in
      (more.0, omega (arith, more.1), more.2)

  -- a climb comes by a register, or its steps lead to others
  comes_by : (register from : ℕ) (above : List Constraint) (to : ℕ) → Climbs
      constraints parents from above to → ((prefix : List Constraint) × (back : List Constraint)
      × (length prefix ≤ length above) × Climbs constraints parents from prefix register × Climbs
      constraints parents register back to) ⊎ All (λ number. register ≢ number) (from ∷ tails above)
  comes_by register from [] to climb =
      let P : ℕ → Type 0 = λ number. register ≢ number in
      ⊎_elim (λ same. inl ([], [], omega arith, sym same, same ∙ climb))
      (λ other. inr (All-cons P from [] other (All-nil P))) (cases_eq register from)
  comes_by register from (step ∷ above) to (reads, climb) =
      let P : ℕ → Type 0 = λ number. register ≢ number in
      ⊎_elim (λ same. inl (
        [],
        step ∷ above,
        omega arith,
        sym same,
        subst (λ r. Climbs constraints parents r (step ∷ above) to) (sym same) (reads, climb),
      )) (λ other. ⊎_elim (λ found. inl (
        step ∷ found.0,
        found.1,
        omega (arith, found.2),
        (
          reads,
          found.3,
        ),
        found.4,
      )) (λ apart. inr (All-cons P from (step.tail ∷ tails above) other apart))
      (comes_by register step.tail above to climb)) (cases_eq register from)

  -- a climb ends on a ring, or comes by no register twice
  ring_or_once : (from : ℕ) (above : List Constraint) (to : ℕ) → Climbs constraints parents from
      above to → ((ring : List Constraint) × (0 < length ring) × (length ring ≤ length above)
      × Climbs constraints parents to ring to)
      ⊎ AllPairs (λ first second. first ≢ second) (from ∷ tails above)
  ring_or_once from [] to climb =
      let R : ℕ → ℕ → Type 0 = λ first second. first ≢ second in
      inr (AllPairs-cons R from [] (All-nil (R from)) (λ i j d before within. absurd (omega arith)))
  ring_or_once from (step ∷ above) to (reads, climb) =
      let R : ℕ → ℕ → Type 0 = λ first second. first ≢ second in
      ⊎_elim (λ ring. inl (ring.0, ring.1, omega (arith, ring.2), ring.3))
      (λ once. ⊎_elim (λ found. inl (closed found.0 found.1 found.2 found.3 found.4))
      (λ apart. inr (AllPairs-cons R from (step.tail ∷ tails above) apart once))
      (comes_by from step.tail above to climb)) (ring_or_once step.tail above to climb)
    where
      closed : (prefix back : List Constraint) → length prefix ≤ length above
          → Climbs constraints parents step.tail prefix from → Climbs constraints parents from back
          to → (ring : List Constraint) × (0 < length ring) × (length ring ≤ suc (length above))
          × Climbs constraints parents to ring to
      closed prefix back short round rest =
          let moved = moved_ring from (step ∷ prefix) back to (omega arith) (reads, round) rest in
          (moved.0, omega (arith, moved.1), omega (arith, moved.1), moved.2)

  -- registers that aren't listed twice are no more than there are
  fewer : (registers : ℕ) (numbers : List ℕ) → AllPairs (λ first second. first ≢ second) numbers
      → All (λ number. number < registers) numbers → length numbers ≤ registers
  fewer registers numbers once below = length-le_from_distinct_below
      numbers registers (IsDistinct-from_AllPairs Decides-eqb numbers once) (λ
      number listed. All-contains (λ n. n < registers) numbers number below (found number listed))
    where
      found : (number : ℕ) → list_any (eqb number) numbers ≡ true → Contains numbers number
      found number listed =
          let any = Any-from_list_any (eqb number) numbers listed in (
            any.0,
            any.2,
            get_or_default numbers any.0 number any.1 any.2 ∙ any.3
                ∙ sym (eqb-true number any.1 any.4),
          )

  -- a climb leads to registers only
  climbs_below : AreSmallConstraints (length parents) constraints
      → (from : ℕ) (above : List Constraint) → (to : ℕ) → Climbs constraints parents from above to
      → from < length parents → All (λ number. number < length parents) (from ∷ tails above)
  climbs_below small from [] to climb within =
      let P : ℕ → Type 0 = λ number. number < length parents in All-cons P from [] within
      (All-nil P)
  climbs_below small from (step ∷ above) to (reads, climb) within =
      let P : ℕ → Type 0 = λ number. number < length parents in
      let stands = parent_place constraints parents from step reads in
      let next = (all_at (IsSmallConstraint (length parents)) constraints small.each stands.0 step
      stands.2).tail in
      All-cons P from (step.tail ∷ tails above) within
      (climbs_below small step.tail above to climb next)

  -- whoever climbs from a register has a parent of it
  first_within : AreSmallConstraints (length parents) constraints
      → (from : ℕ) (above : List Constraint) → (to : ℕ) → length above
      ≡ length parents → Climbs constraints parents from above to → from < length parents
  first_within small from [] to long climb = absurd (omega (arith, small.some))
  first_within small from (step ∷ above) to long (reads, climb) =
      let stands = parent_place constraints parents from step reads in
      slice_get_within parents from stands.0 stands.1

  -- as many steps as there are registers end on a ring
  pub ring_at_end : (register : ℕ) → AreSmallConstraints (length parents) constraints
      → EndsClimb constraints parents register → (ring : List Constraint) × (0 < length ring)
      × (length ring ≤ length parents) × Climbs constraints parents register ring register
  ring_at_end register small ends =
      let within = first_within small ends.from ends.above register ends.long ends.climbs in
      let below = climbs_below small ends.from ends.above register ends.climbs within in
      ⊎_elim
      (λ ring. (ring.0, ring.1, omega (arith, ring.2, ends.long), ring.3)) (λ once. absurd (omega (
        arith,
        fewer (length parents) (ends.from ∷ tails ends.above) once below,
        length-map ends.above (λ (step : Constraint). step.tail),
        ends.long,
      ))) (ring_or_once ends.from ends.above register ends.climbs)

-- where values satisfy a constraint, its gain is no more than they differ
gain_within : (from to gain rest top : ℤ) → (top +ℤ rest) ≤ℤ to → (to +ℤ (pos 1 *ℤ gain)) ≤ℤ from
    → (top +ℤ (gain +ℤ rest)) ≤ℤ from
gain_within from to gain rest top above met = omega (arith, ints)

-- nothing gained is no more
none_gained : (z : ℤ) → (z +ℤ pos 0) ≤ℤ z
none_gained z = omega (arith, ints)

-- what comes back to itself with no more has gained nothing
no_gain : (z total : ℤ) → (z +ℤ total) ≤ℤ z → pos 0 <ℤ total → ⊥
no_gain z total within gains = omega (arith, ints)

module _ (constraints : List Constraint) (gains : Gains) (parents : List ℕ) (value : ℕ → ℤ)
    (satisfied : SatisfiesGains constraints gains 1 value)
    (heads : HaveOwnHeads constraints parents) where
  -- so a climb gains no more than the values of its ends differ
  climb_gain : (from : ℕ) (above : List Constraint) (to : ℕ) → Climbs
      constraints parents from above to → (value to +ℤ total_gain gains above) ≤ℤ value from
  climb_gain from [] to same =
      subst (λ r. (value r +ℤ pos 0) ≤ℤ value from) same (none_gained (value from))
  climb_gain from (step ∷ above) to (reads, climb) =
      let stands = parent_place constraints parents from step reads in
      gain_within (value from) (value step.tail) (gain_of gains step)
      (total_gain gains above) (value to) (climb_gain step.tail above to climb) (subst
      (λ r. (value step.tail +ℤ (pos 1 *ℤ gain_of gains step)) ≤ℤ value r) (heads from step reads)
      (all_at (λ (c : Constraint). (value c.tail +ℤ (pos 1 *ℤ gain_of gains c)) ≤ℤ value c.head)
      constraints satisfied stands.0 step stands.2))

-- and where some values satisfy the constraints, no ring of parents gains
pub none_far_up : (constraints : List Constraint) (gains : Gains) (values : List ℤ)
    (parents : List ℕ) (register : ℕ) → AreSmallConstraints (length parents) constraints
    → AreParents constraints gains values parents → EndsClimb constraints parents register
    → AdmitsGains constraints gains → ⊥
none_far_up constraints gains values parents register small are ends admitted =
    let ring = ring_at_end constraints parents register small ends in
    no_gain (admitted.0 register) (total_gain gains ring.0)
    (climb_gain constraints gains parents admitted.0 admitted.1 are.heads register ring.0 register
    ring.3) (are.rings register ring.0 ring.1 ring.3)

-- a climb that leaves no register before its end that is the end's
abbrev pub IsDirect : (to from : ℕ) → List Constraint → Type 0
IsDirect to from [] = Unit {0}
IsDirect to from (step ∷ above) = (from ≢ to) × IsDirect to step.tail above

module _ (constraints : List Constraint) (parents : List ℕ) where
  -- a climb up to where it first comes to its end
  pub direct_climb : (from : ℕ) (above : List Constraint) (to : ℕ) → Climbs constraints parents
      from above to → (direct : List Constraint) × Climbs constraints parents from direct to
      × IsDirect to from direct × (length direct ≤ length above)
  direct_climb from [] to climb = ([], climb, tt, omega arith)
  direct_climb
      from (step ∷ above) to (reads, climb) = ⊎_elim (λ same. ([], same, tt, omega arith)) (λ other.
      let more = direct_climb step.tail above to climb in
      (step ∷ more.0, (reads, more.1), (other, more.2), omega (arith, more.3))) (cases_eq from to)

  -- there is one direct climb from a register to another
  same_direct : (to from : ℕ) (above other : List Constraint)
      → Climbs constraints parents from above to → IsDirect to from above → Climbs
      constraints parents from other to → IsDirect to from other → length above ≡ length other
  same_direct to from [] [] climb direct again alike = refl
  same_direct to from [] (step ∷ other) climb direct again alike = absurd (alike.0 climb)
  same_direct to from (step ∷ above) [] climb direct again alike = absurd (direct.0 again)
  same_direct to from (step ∷ above) (next ∷ other) (reads, climb) direct (reads_again, again)
      alike =
      let one : next ≡ step = cc in
      ap suc (same_direct to step.tail above other climb direct.1 (subst (λ c. Climbs constraints
      parents c.tail other to) one again) (subst (λ c. IsDirect to c.tail other) one alike.1))

  -- a direct climb doesn't come back to its first register
  pub not_passed : (to from : ℕ) (above : List Constraint)
      → Climbs constraints parents from above to → IsDirect to from above
      → (later : ℕ) (rest : List Constraint) → Climbs constraints parents later rest to
      → IsDirect to later rest → length rest ≤ length above → All (λ step. from ≢ step.tail) rest
  not_passed to from above climb direct later [] up ahead short = All-nil (λ step. from ≢ step.tail)
  not_passed to from above climb direct later (step ∷ rest) (reads, up) ahead short =
      let P : Constraint → Type 0 = λ c. from ≢ c.tail in
      All-cons P step rest (λ same.
      let shorter = same_direct to from above rest climb direct (subst (λ r. Climbs constraints
      parents r rest to) (sym same) up) (subst (λ r. IsDirect to r rest) (sym same) ahead.1) in
      absurd (omega arith))
      (not_passed to from above climb direct step.tail rest up ahead.1 (omega arith))
