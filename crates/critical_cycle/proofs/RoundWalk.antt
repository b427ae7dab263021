-- Going round a ring of parents: the constraints gone by lead on from the register reached to the
-- first.
use Rattle.critical_cycle.proofs.Vocabulary.{ℕ, ◌≡◌, ◌≢◌, ◌<◌, ◌≤◌, ◌+◌, ◌-◌, ℤ, pos, ◌+ℤ◌, ◌<ℤ◌, List, [], ◌∷◌, ◌++◌, length, set, drop, Some, refl, sym, ◌∙◌, ap, subst, arith, All, AllPairs, get_or, ints, length-set, length-append, length-drop, drop-set, drop_all, All-nil, All-cons, All-head, All-tail, slice_get_within, get_or_from_slice_get, AreSmallConstraints, slice_get, cons_option, Constraint, Leads, IsCycle, Gains, gain_of, total_gain, AreParents, EndsClimb, parent_of, Climbs, AreWithin, constraints_at}
use Rattle.std.proofs.lemmas.List.Kept.{AllPairs-cons}
use Rattle.critical_cycle.proofs.PlaceLemmas.{length-constraints_at}
use Rattle.critical_cycle.proofs.Turns.{cycle_from_closed}
use Rattle.relaxation.proofs.Climbs.{climbs_push, direct_climb, IsDirect, not_passed, parent_place, ring_at_end}

-- a gain that is added last counts as one that is added first
gains_push : (trial : Gains) (constraints : List Constraint) (next : Constraint) → total_gain
    trial (constraints ++ next ∷ []) ≡ gain_of trial next +ℤ total_gain trial constraints
gains_push trial [] next = refl
gains_push trial (first ∷ constraints) next = swapped (gain_of trial first)
    (gain_of trial next) _ (total_gain trial constraints) (gains_push trial constraints next)
  where
    swapped : (a b c d : ℤ) → c ≡ b +ℤ d → a +ℤ c ≡ b +ℤ (a +ℤ d)
    swapped a b c d is = omega (arith, ints)

-- the places from there on are those of constraints that were climbed from the first register,
-- which lead back to it from the register reached
pub record IsGone (constraints : List Constraint) (parents places : List ℕ)
    (start at register : ℕ) : Type 0 where
  pub climbed : List Constraint
  pub climbs : Climbs constraints parents start climbed register
  pub long : at + length climbed ≡ length places
  pub within : AreWithin constraints (drop at places)
  pub leads : Leads register (constraints_at constraints (drop at places)) start
  pub once : AllPairs (λ first second. first.tail ≢ second.tail)
      (constraints_at constraints (drop at places))
  pub gained : (trial : Gains)
      → total_gain trial climbed ≡ total_gain trial (constraints_at constraints (drop at places))

-- what is left to climb: a parent of the register reached, and more up to the first register, all
-- by registers that weren't passed
pub record IsLeft (constraints : List Constraint) (parents places : List ℕ)
    (start at register : ℕ) : Type 0 where
  pub next : Constraint
  pub rest : List Constraint
  pub reads : parent_of constraints parents register ≡ Some next
  pub climbs : Climbs constraints parents next.tail rest start
  pub direct : IsDirect start next.tail rest
  pub fits : length rest < at
  pub apart : All (λ step. All (λ gone. step.tail ≢ gone.tail)
      (constraints_at constraints (drop at places))) (next ∷ rest)

pub record IsRoundWalk (constraints : List Constraint) (parents places : List ℕ)
    (start at register : ℕ) : Type 0 where
  pub gone : IsGone constraints parents places start at register
  pub left : IsLeft constraints parents places start at register

module _ (constraints : List Constraint) (parents : List ℕ) where
  -- at first nothing is gone by
  none_gone : (places : List ℕ) (start : ℕ) → IsGone constraints parents places start
      (length places) start
  none_gone places start =
      let none = drop_all (length places) places (omega arith) in
      record {
        climbed = [];
        climbs = refl;
        long = omega arith;
        within = subst (AreWithin constraints) (sym none)
            (All-nil (λ place. place < length constraints));
        leads = subst (λ ps. Leads start (constraints_at constraints ps) start) (sym none) refl;
        once = subst (λ ps. AllPairs (λ (first second : Constraint). first.tail ≢ second.tail)
            (constraints_at constraints ps)) (sym none)
            (λ i j d before within. absurd (omega arith));
        gained = λ trial. subst (λ ps. pos 0 ≡ total_gain trial (constraints_at constraints ps))
            (sym none) refl;
      }

  -- the parent of the register reached comes before what is gone by
  module _ (places : List ℕ) (at place : ℕ) (next : Constraint) where
    before_is : 0 < at → at ≤ length places → slice_get constraints place ≡ Some next
        → drop (at - 1) (set places (at - 1) place) ≡ place ∷ drop at places
    before_is some room here =
        let back : at - 1 + 1 ≡ at = omega arith in
        subst (λ n. drop (at - 1) (set places (at - 1) place) ≡ place ∷ drop n places) back
        (drop-set places (at - 1) place (omega arith))

    steps_are : 0 < at → at ≤ length places → slice_get constraints place ≡ Some next
        → constraints_at constraints (drop (at - 1) (set places (at - 1) place))
        ≡ next ∷ constraints_at constraints (drop at places)
    steps_are some room here = ap (constraints_at constraints) (before_is some room here)
        ∙ ap (λ o. cons_option o (constraints_at constraints (drop at places))) here

    gone_more : (start register : ℕ) → IsGone constraints parents places start at register → 0 < at
        → slice_get constraints place ≡ Some next → parent_of constraints parents register
        ≡ Some next → next.head ≡ register
        → All (λ gone. next.tail ≢ gone.tail) (constraints_at constraints (drop at places))
        → IsGone constraints parents (set places (at - 1) place) start (at - 1) next.tail
    gone_more start register gone some here reads head apart =
        let R : Constraint → Constraint → Type 0 = λ first second. first.tail ≢ second.tail in
        let steps = constraints_at constraints (drop at places) in
        let room : at ≤ length places = omega (arith, gone.long) in
        let whole = steps_are some room here in
        record {
          climbed = gone.climbed ++ next ∷ [];
          climbs = climbs_push constraints parents start gone.climbed register next gone.climbs
              reads;
          long = omega (
            arith,
            length-set places (at - 1) place,
            length-append gone.climbed (next ∷ []),
            gone.long,
          );
          within = subst (AreWithin constraints) (sym (before_is some room here))
              (All-cons (λ n. n < length constraints) place (drop at places)
              (slice_get_within constraints place next here) gone.within);
          leads = subst (λ cs. Leads next.tail cs start) (sym whole)
              (refl, subst (λ r. Leads r steps start) (sym head) gone.leads);
          once = subst (AllPairs R) (sym whole) (AllPairs-cons R next steps apart gone.once);
          gained = λ trial. gains_push trial gone.climbed next ∙ ap (λ g. gain_of trial next +ℤ g)
              (gone.gained trial) ∙ sym (ap (total_gain trial) whole);
        }

  -- the next step's parent, where what is left isn't all gone by
  left_more : (places : List ℕ) (start at : ℕ) (next : Constraint) (rest : List Constraint)
      → Climbs constraints parents next.tail rest start → IsDirect start next.tail rest → next.tail
      ≢ start → length rest ≤ at → All (λ step. All (λ gone. step.tail ≢ gone.tail) (constraints_at
      constraints (drop at places))) rest → IsLeft constraints parents places start at next.tail
  left_more places start at next [] climbs direct goes_on fits apart = absurd (goes_on climbs)
  left_more places start at next (step ∷ rest) climbs direct goes_on fits apart = record {
    next = step;
    rest = rest;
    reads = climbs.0;
    climbs = climbs.1;
    direct = direct.1;
    fits = omega arith;
    apart = apart;
  }

  -- at first a ring is left
  pub round_first : (places : List ℕ) (start : ℕ) → length places ≡ length parents
      → AreSmallConstraints (length parents) constraints → EndsClimb constraints parents start
      → IsRoundWalk constraints parents places start (length places) start
  round_first places start room small ends =
      let ring = ring_at_end constraints parents start small ends in
      first ring.0 ring.1 ring.2 ring.3
    where
      first : (ring : List Constraint) → 0 < length ring → length ring ≤ length parents
          → Climbs constraints parents start ring start
          → IsRoundWalk constraints parents places start (length places) start
      first [] some fits climbs = absurd (omega arith)
      first (next ∷ rest) some fits (reads, climbs) =
          let direct = direct_climb constraints parents next.tail rest start climbs in
          let none = drop_all (length places) places (omega arith) in
          record {
            gone = none_gone places start;
            left = record {
              next = next;
              rest = direct.0;
              reads = reads;
              climbs = direct.1;
              direct = direct.2;
              fits = omega (arith, direct.3);
              apart = λ k d within.
                  subst (λ ps. All (λ (gone : Constraint). (get_or (next ∷ direct.0) k d).tail
                  ≢ gone.tail) (constraints_at constraints ps)) (sym none) (All-nil
                  (λ (gone : Constraint). (get_or (next ∷ direct.0) k d).tail ≢ gone.tail));
            };
          }

  module _ (places : List ℕ) (start at register : ℕ)
      (walk : IsRoundWalk constraints parents places start at register) where
    -- the parent that is read is the next step
    read_place : slice_get constraints (get_or parents register 0) ≡ Some walk.left.next
    read_place =
        let stands = parent_place constraints parents register walk.left.next walk.left.reads in
        subst (λ n. slice_get constraints n ≡ Some walk.left.next)
        (sym (get_or_from_slice_get parents register stands.0 0 stands.1)) stands.2

    pub register_within : register < length parents
    register_within =
        let stands = parent_place constraints parents register walk.left.next walk.left.reads in
        slice_get_within parents register stands.0 stands.1

    pub place_within : get_or parents register 0 < length constraints
    place_within = slice_get_within constraints (get_or parents register 0) walk.left.next
        read_place

    read_step : (d : Constraint) → get_or constraints (get_or parents register 0) d ≡ walk.left.next
    read_step d = get_or_from_slice_get constraints (get_or parents register 0) walk.left.next d
        read_place

    module _ (heads : (r : ℕ) (parent : Constraint) → parent_of constraints parents r ≡ Some parent
        → parent.head ≡ r) where
      -- it leads to what is gone by
      next_gone : IsGone constraints parents (set places (at - 1) (get_or parents register 0))
          start (at - 1) walk.left.next.tail
      next_gone = gone_more places at (get_or parents register 0)
          walk.left.next start register walk.gone (omega (arith, walk.left.fits))
          read_place walk.left.reads (heads register walk.left.next walk.left.reads) (All-head
          (λ (step : Constraint). All (λ (gone : Constraint). step.tail ≢ gone.tail) (constraints_at
          constraints (drop at places))) walk.left.next walk.left.rest walk.left.apart)

      -- the walk goes on where it isn't back
      pub round_next : (d : Constraint) → (get_or constraints (get_or parents register 0) d).tail ≢
          start → IsRoundWalk constraints parents (set places (at - 1) (get_or parents register 0))
          start (at - 1) (get_or constraints (get_or parents register 0) d).tail
      round_next d goes_on =
          let same = sym (read_step d) in
          let after = set places (at - 1) (get_or parents register 0) in
          let on : walk.left.next.tail ≢ start = subst (λ (c : Constraint). c.tail ≢ start)
          (read_step d) goes_on in
          let steps = constraints_at constraints (drop at places) in
          let room : at ≤ length places = omega (arith, walk.gone.long) in
          let whole = steps_are places at (get_or parents register 0) walk.left.next
          (omega (arith, walk.left.fits)) room read_place in
          let unlike = not_passed constraints parents start walk.left.next.tail walk.left.rest
          walk.left.climbs walk.left.direct
          walk.left.next.tail walk.left.rest walk.left.climbs walk.left.direct (omega arith) in
          let before = All-tail (λ (step : Constraint). All (λ (gone : Constraint).
          step.tail ≢ gone.tail) steps) walk.left.next walk.left.rest walk.left.apart in
          subst (λ (c : Constraint). IsRoundWalk constraints parents after start (at - 1) c.tail)
          same (record {
            gone = next_gone;
            left = left_more after start (at - 1) walk.left.next walk.left.rest walk.left.climbs
                walk.left.direct on (omega (arith, walk.left.fits)) (λ k e within. subst (All
                (λ (gone : Constraint). (get_or walk.left.rest k e).tail ≢ gone.tail)) (sym whole)
                (All-cons (λ (gone : Constraint). (get_or walk.left.rest k e).tail ≢ gone.tail)
                walk.left.next steps (λ alike. unlike k e within (sym alike)) (before k e within)));
          })

      -- and where it is back, a cycle is gone by
      pub round_gone : (d : Constraint)
          → (get_or constraints (get_or parents register 0) d).tail ≡ start → IsGone
          constraints parents (set places (at - 1) (get_or parents register 0)) start (at - 1) start
      round_gone d back = subst (IsGone constraints parents
          (set places (at - 1) (get_or parents register 0)) start (at - 1))
          (ap (λ (c : Constraint). c.tail) (sym (read_step d)) ∙ back) next_gone

  -- what is gone by where the walk is back has a cycle's constraints
  pub gone_cycle : (places : List ℕ) (start at : ℕ) → IsGone constraints parents places start at
      start → at < length places → IsCycle (constraints_at constraints (drop at places))
  gone_cycle places start
      at gone some = cycle_from_closed (constraints_at constraints (drop at places)) start (omega (
        arith,
        length-constraints_at constraints (drop at places) gone.within,
        length-drop at places,
      )) gone.leads gone.once

  -- and a total above 0
  pub gone_gains : (places : List ℕ) (start at : ℕ) → IsGone constraints parents places start at
      start → at < length places → (trial : Gains) (values : List ℤ) → AreParents constraints trial
      values parents → pos 0 <ℤ total_gain trial (constraints_at constraints (drop at places))
  gone_gains places start at gone some trial values are = subst (λ total. pos 0 <ℤ total)
      (gone.gained trial) (are.rings start gone.climbed (omega (arith, gone.long)) gone.climbs)
