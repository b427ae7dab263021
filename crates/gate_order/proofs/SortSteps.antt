-- The gates of a circuit in the order in which they stop waiting, one taken after the other.
use Rattle.gate_order.proofs.Vocabulary.{◌≡◌, ◌≢◌, ◌+◌, ◌-◌, ◌<◌, ◌≤◌, ◌==◌, ℕ, false, List, [], ◌∷◌, ◌++◌, length, take, get_or, count_by, All, AllPairs, Contains, Some, inl, inr, refl, sym, ◌∙◌, ap, subst, arith, slice_get, cases_lt, false_from_ne_true, false≢true, take_more, take-append-le, take_all, length-take, get_or-take, get_or_append_left, get_or-append_right, length-append, All-append, All-same, All-weaker, All-contains, Contains-get_or, Contains-append_left, Contains-append_right, slice_get_within, get_or_from_slice_get, slice_get-get_or, Signal, IsGate, Reads, values_at, IsRead, AreReads, CanRelease, AreReleased, AreIdleGates, IsSorted}
use Rattle.gate_order.proofs.ReadLemmas.{IsGate-from_Reads, gate_within}
use Rattle.gate_order.proofs.Unmet.{is_among, unmet, waits_for, all_met, unmet_more, unmet_none, Contains-from_test, test_from_Contains}

-- what stands at a place waits for none, where none in the list does
idle_at : (waiting order : List ℕ) (place gate : ℕ) → slice_get order place ≡ Some gate
    → All (λ other. get_or waiting other 0 ≡ 0) order → get_or waiting gate 0 ≡ 0
idle_at waiting order place gate here idle =
    subst (λ other. get_or waiting other 0 ≡ 0) (get_or_from_slice_get order place gate 0 here)
    (idle place 0 (slice_get_within order place gate here))

-- what stands before a place stands before a later one
Contains-take : (before place number : ℕ) (numbers : List ℕ) → before < place
    → Contains (take (before + 1) numbers) number → Contains (take place numbers) number
Contains-take before place number numbers earlier (k, inside, here) =
    let near : k < before + 1 = omega (arith, length-take (before + 1) numbers) in
    let far : k < place = omega arith in (
      k,
      omega (arith, length-take (before + 1) numbers, length-take place numbers),
      get_or-take place numbers k number far
          ∙ (sym (get_or-take (before + 1) numbers k number near) ∙ here),
    )

-- where the first gates of the order are taken, each gate waits for those of its inputs that
-- aren't, and the order has the gates that wait for none
pub record IsSorting (signals : List Signal) (pairs : List (ℕ × ℕ)) (taken : ℕ)
    (waiting order : List ℕ) : Type 0 where
  pub covers : length waiting ≡ length signals
  pub counted : (gate : ℕ) → get_or waiting gate 0 ≡ unmet pairs (take taken order) gate
  pub gates : All (IsGate signals) order
  pub once : AllPairs (λ first second. first ≢ second) order
  pub idle : All (λ gate. get_or waiting gate 0 ≡ 0) order
  pub ready : (gate : ℕ) → IsGate signals gate → get_or waiting gate 0 ≡ 0 → Contains order gate
  pub after : (place gate read : ℕ) → slice_get order place ≡ Some gate
      → Contains pairs (read, gate) → Contains (take place order) read

-- the lists of two parts have each item once, where neither part has one of the other
distinct-append : (xs ys : List ℕ) → AllPairs (λ first second. first ≢ second) xs
    → AllPairs (λ first second. first ≢ second) ys → ((x : ℕ) → Contains xs x → Contains ys x → ⊥)
    → AllPairs (λ first second. first ≢ second) (xs ++ ys)
distinct-append xs ys once_x once_y apart i j d before inside = elim (cases_lt j (length xs)) [
  | inl both ↦ λ same. once_x i j d before both
      (sym (get_or_append_left xs ys d i (omega arith))
      ∙ (same ∙ get_or_append_left xs ys d j both))
  | inr suffix ↦ elim (cases_lt i (length xs)) [
    | inl prefix ↦ λ same.
        let value : get_or ys (j - length xs) d ≡ get_or xs i d =
        sym (get_or-append_right xs ys (length xs) j d refl suffix)
        ∙ (sym same ∙ get_or_append_left xs ys d i prefix) in
        apart (get_or xs i d) (Contains-get_or xs i d prefix)
        (subst (Contains ys) value
        (Contains-get_or ys (j - length xs) d (omega (arith, length-append xs ys))))
    | inr after ↦ λ same.
        once_y (i - length xs) (j - length xs) d (omega arith) (omega (arith, length-append xs ys))
        (sym (get_or-append_right xs ys (length xs) i d refl after)
        ∙ (same ∙ get_or-append_right xs ys (length xs) j d refl suffix))
  ]
]

-- where no gate is taken
pub IsSorting-none : (signals : List Signal) (pairs : List (ℕ × ℕ)) (waiting order : List ℕ)
    → length waiting ≡ length signals
    → ((gate : ℕ) → get_or waiting gate 0 ≡ count_by (λ pair. pair.1 == gate) pairs)
    → AreIdleGates signals waiting (length waiting) order → IsSorting signals pairs 0 waiting order
IsSorting-none signals pairs waiting order covers counts start = record {
  covers = covers;
  counted = counted;
  gates = start.gates;
  once = start.once;
  idle = start.idle;
  ready = λ gate is_one idle.
      start.all gate (omega (arith, gate_within signals gate is_one)) is_one idle;
  after = λ place gate read here listed.
      let none = all_met pairs [] gate read
      (sym (counted gate) ∙ idle_at waiting order place gate here start.idle) listed in
      absurd (omega (arith, none.1));
}
  where
    counted : (gate : ℕ) → get_or waiting gate 0 ≡ unmet pairs [] gate
    counted gate = counts gate ∙ sym (unmet_none pairs gate)

-- the next gate of the order is one of the signals
pub next_within : (signals : List Signal) (order : List ℕ) (taken gate : ℕ) → taken < length order
    → gate ≡ get_or order taken gate → All (IsGate signals) order → gate < length signals
next_within signals order taken gate within read gates =
    gate_within signals gate (subst (IsGate signals) (sym read) (gates taken gate within))

-- and isn't among those before it
next_fresh : (order : List ℕ) (taken gate : ℕ) → taken < length order
    → gate ≡ get_or order taken gate → AllPairs (λ first second. first ≢ second) order
    → is_among (take taken order) gate ≡ false
next_fresh order taken gate within read once =
    false_from_ne_true (is_among (take taken order) gate) (λ passes.
    let found = Contains-from_test (take taken order) gate passes in
    let before : found.0 < taken = omega (arith, found.1, length-take taken order) in
    once found.0 taken gate before within
    (sym (get_or-take taken order found.0 gate before) ∙ (found.2 ∙ read)))

-- the readers of the next gate still wait for it
pub can_release : (signals : List Signal) (pairs : List (ℕ × ℕ)) (taken gate : ℕ)
    (waiting order : List ℕ) → taken < length order → gate ≡ get_or order taken gate
    → IsSorting signals pairs taken waiting order → CanRelease (values_at pairs gate) waiting
can_release signals pairs taken gate waiting order within read so_far = record {
  each = λ reader. omega (
    arith,
    so_far.counted reader,
    unmet_more pairs (take taken order) gate reader
        (next_fresh order taken gate within read so_far.once),
  );
}

-- the next gate is taken
pub IsSorting-more : (signals : List Signal) (pairs : List (ℕ × ℕ)) (below taken next : ℕ)
    (waiting order later_waiting later_order : List ℕ) → AreReads signals below pairs
    → taken < length order → next ≡ get_or order taken next
    → IsSorting signals pairs taken waiting order
    → AreReleased (values_at pairs next) waiting order later_waiting later_order
    → IsSorting signals pairs (taken + 1) later_waiting later_order
IsSorting-more signals pairs below taken next waiting order later_waiting later_order reads within
    read_next so_far released = record {
      covers = released.covers ∙ so_far.covers;
      counted = counted;
      gates = All-same (IsGate signals) later_order (order ++ released.added) released.put
          (All-append (IsGate signals) order released.added so_far.gates
          (All-weaker (λ gate. 0 < get_or waiting gate 0)
          (IsGate signals) waits_is_gate released.added released.waited));
      once = rw released.put
          (distinct-append order released.added so_far.once released.once (λ gate old new.
          absurd (omega (
            arith,
            All-contains (λ other. get_or waiting other 0 ≡ 0) order gate so_far.idle old,
            All-contains
                (λ other. 0 < get_or waiting other 0) released.added gate released.waited new,
          ))));
      idle = idle;
      ready = λ gate is_one none. elim (cases_lt 0 (get_or waiting gate 0)) [
        | inl waited ↦ rw released.put
            (Contains-append_right order released.added gate (released.all gate waited none))
        | inr old ↦ rw released.put
            (Contains-append_left order released.added gate
            (so_far.ready gate is_one (omega arith)))
      ];
      after = λ place gate read here listed. elim (cases_lt taken place) [
        | inl suffix ↦ Contains-take taken place read later_order suffix
            (all_met pairs (take (taken + 1) later_order) gate read
            (sym (counted gate) ∙ idle_at later_waiting later_order place gate here idle) listed)
        | inr before ↦
            let same_prefix : take place later_order ≡ take place order =
            ap (take place) released.put
            ∙ take-append-le place order released.added (omega arith) in
            subst (λ prefix. Contains prefix read) (sym same_prefix)
            (so_far.after place gate read (stood place gate (omega arith) here) listed)
      ];
    }
  where
    taken_now : take (taken + 1) later_order ≡ take taken order ++ next ∷ []
    taken_now = ap (take (taken + 1)) released.put
        ∙ (take-append-le (taken + 1) order released.added (omega arith)
        ∙ (take_more order taken next within
        ∙ ap (λ number. take taken order ++ number ∷ []) (sym read_next)))

    counted : (gate : ℕ)
        → get_or later_waiting gate 0 ≡ unmet pairs (take (taken + 1) later_order) gate
    counted gate =
        rw taken_now (omega (
          arith,
          so_far.counted gate,
          released.lowered gate,
          unmet_more pairs (take taken order) next gate
              (next_fresh order taken next within read_next so_far.once),
        ))

    idle : All (λ gate. get_or later_waiting gate 0 ≡ 0) later_order
    idle =
        rw released.put (All-append (λ gate. get_or later_waiting gate 0 ≡ 0) order released.added
        (All-weaker (λ gate. get_or waiting gate 0 ≡ 0) (λ gate. get_or later_waiting gate 0 ≡ 0)
        (λ gate none. omega (arith, released.lowered gate)) order so_far.idle) released.idle)

    waits_is_gate : (gate : ℕ) → 0 < get_or waiting gate 0 → IsGate signals gate
    waits_is_gate gate waits =
        let found = waits_for pairs (take taken order) gate (omega (arith, so_far.counted gate)) in
        IsGate-from_Reads signals gate found.0
        (All-contains (IsRead signals) pairs (found.0, gate) reads.each found.1).0

    stood : (place gate : ℕ) → place < length order → slice_get later_order place ≡ Some gate
        → slice_get order place ≡ Some gate
    stood place gate inside here =
        let value = get_or_from_slice_get (order ++ released.added) place gate gate
        (subst (λ l. slice_get l place ≡ Some gate) released.put here) in
        slice_get-get_or order place gate inside
        ∙ ap Some (sym (get_or_append_left order released.added gate place inside) ∙ value)

-- once all gates of the order are taken
pub IsSorted-from_taken : (signals : List Signal) (pairs : List (ℕ × ℕ)) (taken : ℕ)
    (waiting order : List ℕ) → AreReads signals (length signals) pairs → length order ≤ taken
    → IsSorting signals pairs taken waiting order → IsSorted signals waiting order
IsSorted-from_taken signals pairs taken waiting order reads all_taken so_far = record {
  wait = record { covers = so_far.covers; each = each };
  complete = λ none. record {
    gates = so_far.gates;
    all = λ gate is_one. so_far.ready gate is_one (none gate);
    once = so_far.once;
    after = λ place gate read here read_by is_one. so_far.after place gate read here
        (reads.all gate read
        (gate_within signals gate (IsGate-from_Reads signals gate read read_by)) read_by is_one);
  };
}
  where
    whole : take taken order ≡ order
    whole = take_all taken order all_taken

    each : (gate : ℕ) → 0 < get_or waiting gate 0
        → (read : ℕ) × Reads signals gate read × (0 < get_or waiting read 0)
    each gate waits =
        let found = waits_for pairs (take taken order) gate (omega (arith, so_far.counted gate)) in
        let says = All-contains (IsRead signals) pairs (found.0, gate) reads.each found.1 in
        let left : 0 < get_or waiting found.0 0 = elim (cases_lt 0 (get_or waiting found.0 0)) [
          | inl above ↦ above
          | inr none ↦
              let listed : Contains (take taken order) found.0 =
              subst (λ list. Contains list found.0) (sym whole)
              (so_far.ready found.0 says.1 (omega arith)) in
              absurd (false≢true (sym found.2
              ∙ test_from_Contains (take taken order) found.0 listed))
        ] in
        (found.0, says.0, left)
