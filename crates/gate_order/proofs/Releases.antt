-- Gates that wait for one gate less each time one that they read is taken.
use Rattle.gate_order.proofs.Vocabulary.{◌≡◌, ◌≢◌, ◌+◌, ◌-◌, ◌<◌, ◌≤◌, ◌==◌, nat_lt, ℕ, Bool, true, false, cond, List, [], ◌∷◌, ◌++◌, length, take, get_or, set, All, Contains, inl, inr, refl, sym, ◌∙◌, ap, subst, arith, nat_tests, cases_eq, eq-eqb, ne_eqb, eqb-true, eqb-false, get_or-set_same, get_or-set_other, length-set, length_push, append-nil, append_assoc, sum_by-set, sum_by-take-le, count_by_more_yes, count_by_more_no, All-nil, All-push, All-weaker, Contains-push, Contains-append_left, all_pairs_push, waiting_count, times_in, IsReleased, CanRelease, AreReleased}
use Rattle.gate_order.proofs.WaitingInputs.{waits_within}

-- one number is one less, and the others are as they were
record IsLowered (gate : ℕ) (waiting later : List ℕ) : Type 0 where
  long : length later ≡ length waiting
  here : get_or later gate 0 + 1 ≡ get_or waiting gate 0
  others : (other : ℕ) → (gate ≡ other → ⊥) → get_or later other 0 ≡ get_or waiting other 0
  counted : waiting_count later + cond (get_or waiting gate 0 == 1) 1 0 ≡ waiting_count waiting

-- a number that isn't 0 made one less
lowered : (gate : ℕ) (waiting : List ℕ) → 0 < get_or waiting gate 0
    → IsLowered gate waiting (set waiting gate (get_or waiting gate 0 - 1))
lowered gate waiting waits =
    let room = waits_within waiting gate waits in
    let put = get_or-set_same waiting gate (get_or waiting gate 0 - 1) 0 room in
    record {
      long = length-set waiting gate (get_or waiting gate 0 - 1);
      here = omega arith;
      others = λ other apart.
          get_or-set_other waiting gate other (get_or waiting gate 0 - 1) 0 (λ e. apart (sym e));
      counted = counted room;
    }
  where
    tests : (n : ℕ) → 0 < n
        → cond (nat_lt 0 (n - 1)) 1 0 + cond (n == 1) 1 0 ≡ cond (nat_lt 0 n) 1 0
    tests n above = grind (arith, nat_tests)

    counted : gate < length waiting
        → waiting_count (set waiting gate (get_or waiting gate 0 - 1))
        + cond (get_or waiting gate 0 == 1) 1 0 ≡ waiting_count waiting
    counted room = omega (
      arith,
      sum_by-set (λ number. cond (nat_lt 0 number) 1 0) waiting gate
          (get_or waiting gate 0 - 1) 0 room,
      tests (get_or waiting gate 0) waits,
    )

-- before the first reader nothing has changed
pub AreReleased-none : (waiting order : List ℕ) → AreReleased [] waiting order waiting order
AreReleased-none waiting order = record {
  covers = refl;
  lowered = λ gate. omega arith;
  added = [];
  put = sym (append-nil order);
  waited = All-nil (λ gate. 0 < get_or waiting gate 0);
  idle = All-nil (λ gate. get_or waiting gate 0 ≡ 0);
  all = λ gate waits idle. absurd (omega arith);
  once = λ i j d before inside. absurd (omega arith);
  steady = refl;
}

-- the next reader still waits
pub reader_waits : (readers : List ℕ) (i d : ℕ) (waiting order later_waiting later_order : List ℕ)
    → i < length readers → CanRelease readers waiting
    → AreReleased (take i readers) waiting order later_waiting later_order
    → 0 < get_or later_waiting (get_or readers i d) 0
reader_waits readers i d waiting order later_waiting later_order inside can so_far =
    let gate = get_or readers i d in
    let test = λ (reader : ℕ). reader == gate in
    let more = count_by_more_yes test readers i d inside (eq-eqb gate gate refl) in
    omega (
      arith,
      more,
      sum_by-take-le (λ reader. cond (reader == gate) 1 0) readers (i + 1),
      can.each gate,
      so_far.lowered gate,
    )

-- the next reader waits for one gate less
pub AreReleased-more : (readers : List ℕ) (i d : ℕ)
    (waiting order later_waiting later_order last_waiting last_order : List ℕ) → i < length readers
    → CanRelease readers waiting
    → AreReleased (take i readers) waiting order later_waiting later_order
    → IsReleased (get_or readers i d) later_waiting later_order last_waiting last_order
    → AreReleased (take (i + 1) readers) waiting order last_waiting last_order
AreReleased-more readers i d waiting order later_waiting later_order last_waiting last_order inside
    can so_far released =
    step (rw (← released.lowered) at (lowered (get_or readers i d) later_waiting waits))
    (get_or later_waiting (get_or readers i d) 0 == 1) refl
  where
    waits : 0 < get_or later_waiting (get_or readers i d) 0
    waits = reader_waits readers i d waiting order later_waiting later_order inside can so_far

    lowered_now : IsLowered (get_or readers i d) later_waiting last_waiting → (gate : ℕ)
        → get_or last_waiting gate 0 + times_in gate (take (i + 1) readers) ≡ get_or waiting gate 0
    lowered_now less gate = elim (cases_eq (get_or readers i d) gate) [
      | inl same ↦
          let more = count_by_more_yes (λ reader. reader == gate) readers i d inside
          (eq-eqb (get_or readers i d) gate same) in
          omega (
            arith,
            more,
            so_far.lowered gate,
            subst (λ g. get_or last_waiting g 0 + 1 ≡ get_or later_waiting g 0) same less.here,
          )
      | inr other ↦
          let more = count_by_more_no (λ reader. reader == gate) readers i d inside
          (ne_eqb (get_or readers i d) gate other) in
          omega (arith, more, so_far.lowered gate, less.others gate other)
    ]

    lower : IsLowered (get_or readers i d) later_waiting last_waiting → (gate : ℕ)
        → get_or last_waiting gate 0 ≤ get_or later_waiting gate 0
    lower less gate = elim (cases_eq (get_or readers i d) gate) [
      | inl same ↦ omega (
        arith,
        subst (λ g. get_or last_waiting g 0 + 1 ≡ get_or later_waiting g 0) same less.here,
      )
      | inr other ↦ omega (arith, less.others gate other)
    ]

    kept_idle : IsLowered (get_or readers i d) later_waiting last_waiting
        → All (λ gate. get_or last_waiting gate 0 ≡ 0) so_far.added
    kept_idle less = All-weaker (λ gate. get_or later_waiting gate 0 ≡ 0)
        (λ gate. get_or last_waiting gate 0 ≡ 0)
        (λ gate idle. omega (arith, lower less gate)) so_far.added so_far.idle

    put_last : (get_or later_waiting (get_or readers i d) 0 == 1) ≡ true
        → last_order ≡ later_order ++ get_or readers i d ∷ []
    put_last one = released.put ∙ ap (λ b. later_order ++ cond b (get_or readers i d ∷ []) []) one

    put_none : (get_or later_waiting (get_or readers i d) 0 == 1) ≡ false → last_order ≡ later_order
    put_none more = released.put
        ∙ (ap (λ b. later_order ++ cond b (get_or readers i d ∷ []) []) more
        ∙ append-nil later_order)

    step : IsLowered (get_or readers i d) later_waiting last_waiting → (b : Bool)
        → (get_or later_waiting (get_or readers i d) 0 == 1) ≡ b
        → AreReleased (take (i + 1) readers) waiting order last_waiting last_order
    step less true one = record {
      covers = less.long ∙ so_far.covers;
      lowered = lowered_now less;
      added = so_far.added ++ get_or readers i d ∷ [];
      put = put_last one
          ∙ (ap (λ l. l ++ get_or readers i d ∷ []) so_far.put
          ∙ append_assoc order so_far.added (get_or readers i d ∷ []));
      waited = All-push (λ gate. 0 < get_or waiting gate 0) so_far.added (get_or readers i d)
          so_far.waited (omega (arith, waits, so_far.lowered (get_or readers i d)));
      idle = All-push (λ gate. get_or last_waiting gate 0 ≡ 0) so_far.added (get_or readers i d)
          (kept_idle less)
          (omega (arith, less.here, eqb-true (get_or later_waiting (get_or readers i d) 0) 1 one));
      all = λ gate waited idle. elim (cases_eq (get_or readers i d) gate) [
        | inl same ↦ subst (Contains (so_far.added ++ get_or readers i d ∷ [])) same
            (Contains-push so_far.added (get_or readers i d))
        | inr other ↦ Contains-append_left so_far.added (get_or readers i d ∷ []) gate
            (so_far.all gate waited (omega (arith, less.others gate other)))
      ];
      once = all_pairs_push (λ first second. first ≢ second) so_far.added
          (get_or readers i d) so_far.once
          (λ k e inside_added same. absurd (omega (
            arith,
            waits,
            so_far.idle k e inside_added,
            ap (λ g. get_or later_waiting g 0) same,
          )));
      steady = omega (
        arith,
        ap length (put_last one) ∙ length_push later_order (get_or readers i d),
        rw one at less.counted,
        so_far.steady,
      );
    }
    step less false more = record {
      covers = less.long ∙ so_far.covers;
      lowered = lowered_now less;
      added = so_far.added;
      put = put_none more ∙ so_far.put;
      waited = so_far.waited;
      idle = kept_idle less;
      all = λ gate waited idle. elim (cases_eq (get_or readers i d) gate) [
        | inl same ↦
            absurd (eqb-false (get_or later_waiting (get_or readers i d) 0) 1 more
            (omega (arith, less.here, subst (λ g. get_or last_waiting g 0 ≡ 0) (sym same) idle)))
        | inr other ↦ so_far.all gate waited (omega (arith, less.others gate other))
      ];
      once = so_far.once;
      steady = omega (arith, ap length (put_none more), rw more at less.counted, so_far.steady);
    }
