-- The readers of each signal, and the place of each gate in the order.
use Rattle.path_delays.proofs.Vocabulary.{◌≡◌, ◌≢◌, ◌+◌, ◌-◌, ◌<◌, ◌≤◌, ◌==◌, ℕ, zero, suc, Bool, true, false, cond, IsTrue, List, [], ◌∷◌, ◌++◌, length, map, filter, replicate, get_or, set, sum, All, AllPairs, Contains, Option, Some, None, IsSomeAnd, inl, inr, refl, sym, ◌∙◌, ap, subst, arith, slice_get, sum_by, cases_eq, cases_lt, eqb-true, eq-eqb, length-append, length-map, length-set, length-take, get_or-map, get_or-take, get_or-set_same, get_or-set_other, get_or_default, length-replicate, get_or-replicate, get_or_past, sum_by_more, sum_by-cons, sum_by-set, All-nil, All-map, All-filter, All-append, All-contains, All-contains_itself, filter_passes, Contains-append_left, Contains-append_right, get_or_from_slice_get, slice_get_within, slice_get-get_or, Signal, Circuit, is_gate, gate_inputs, IsGate, Reads, Groups, group_of, HasGroups, IsTopologicalOrder, Contains-cons, IsGate-from_Reads, gate_within, AreAllReads, all_reads_by, AreReaders, slice_index, HasPlaceInOrder, AreRanks}
use Rattle.std.proofs.lemmas.List.Folds.{sum_by-replicate}
use Rattle.gate_order.specs.Grouped.{values_at}

-- no pairs of no signals
pub AreAllReads-none : (signals : List Signal) → AreAllReads signals 0 []
AreAllReads-none signals = grind (arith, All-nil)

-- what a list contains, its image contains
pub Contains-map : {X Y : Type 0} (f : X → Y) (xs : List X) (x : X) → Contains xs x
    → Contains (map f xs) (f x)
Contains-map f xs x (k, inside, here) =
    (k, omega (arith, length-map xs f), get_or-map f xs k x (f x) inside ∙ ap f here)

-- the pairs of one more signal
pub AreAllReads-more : (signals : List Signal) (below : ℕ) (pairs : List (ℕ × ℕ)) (signal : Signal)
    → slice_get signals below ≡ Some signal → AreAllReads signals below pairs
    → AreAllReads signals (below + 1) (pairs ++ all_reads_by signal below)
AreAllReads-more signals below pairs signal here so_far = record {
  each = All-append (λ (pair : ℕ × ℕ). Reads signals pair.1 pair.0) pairs
      (all_reads_by signal below) so_far.each (each (is_gate signal.kind) refl);
  all = λ gate read lower reads. elim (cases_lt gate below) [
    | inl earlier ↦ Contains-append_left pairs (all_reads_by signal below) (read, gate)
        (so_far.all gate read earlier reads)
    | inr last ↦
        let same : gate ≡ below = omega arith in
        Contains-append_right pairs (all_reads_by signal below) (read, gate)
        (subst (λ n. Contains (all_reads_by signal below) (read, n)) (sym same)
        (all read (rw (same, here) at reads)))
  ];
  few = omega (
    arith,
    length-append pairs (all_reads_by signal below),
    so_far.few,
    few (is_gate signal.kind),
    sum_by_more gate_inputs signals below signal (slice_get_within signals below signal here),
    ap gate_inputs (get_or_from_slice_get signals below signal signal here),
  );
}
  where
    each : (b : Bool) → is_gate signal.kind ≡ b
        → All (λ (pair : ℕ × ℕ). Reads signals pair.1 pair.0)
        (cond b (map (λ input. (input, below)) signal.fan_in) [])
    each true is_one =
        All-map (λ (pair : ℕ × ℕ). Reads signals pair.1 pair.0) (λ input. (input, below))
        signal.fan_in (λ i d within. rw here (is_one, All-contains_itself signal.fan_in i d within))
    each false other = All-nil (λ (pair : ℕ × ℕ). Reads signals pair.1 pair.0)

    all : (read : ℕ) → IsTrue (is_gate signal.kind) × Contains signal.fan_in read
        → Contains (all_reads_by signal below) (read, below)
    all read (is_one, listed) =
        rw is_one (Contains-map (λ input. (input, below)) signal.fan_in read listed)

    pair : ℕ → ℕ × ℕ
    pair input = (input, below)

    few : (b : Bool) → length (cond b (map pair signal.fan_in) []) ≤ cond b (length signal.fan_in) 0
    few true = omega (arith, length-map signal.fan_in pair)
    few false = omega arith

-- what a gate reads is a signal
pub reads_within : (signals : List Signal) (gate read : ℕ)
    → All (λ signal. All (λ number. number < length signals) signal.fan_in) signals
    → Reads signals gate read → read < length signals
reads_within signals gate read within reads = at (slice_get signals gate) refl reads
  where
    at : (o : Option Signal) → slice_get signals gate ≡ o
        → IsSomeAnd o (λ signal. IsTrue (is_gate signal.kind) × Contains signal.fan_in read)
        → read < length signals
    at None none reads = absurd reads
    at (Some signal) here (is_one, listed) =
        let inputs = subst (λ (s : Signal). All (λ number. number < length signals) s.fan_in)
        (get_or_from_slice_get signals gate signal signal here)
        (within gate signal (slice_get_within signals gate signal here)) in
        All-contains (λ number. number < length signals) signal.fan_in read inputs listed

-- and so is the gate
pub reader_within : (signals : List Signal) (gate read : ℕ) → Reads signals gate read
    → gate < length signals
reader_within signals gate read reads =
    gate_within signals gate (IsGate-from_Reads signals gate read reads)

-- a pair's value stands among those of its key
pub Contains-values_at : (pairs : List (ℕ × ℕ)) (key value : ℕ) → Contains pairs (key, value)
    → Contains (values_at pairs key) value
Contains-values_at [] key value (k, inside, here) = absurd (omega arith)
Contains-values_at (pair ∷ pairs) key value (zero, inside, here) = grind (arith, eq-eqb)
Contains-values_at (pair ∷ pairs) key value (suc k, inside, here) =
    at (pair.0 == key) (Contains-values_at pairs key value (k, omega arith, here))
  where
    at : (b : Bool) → Contains (values_at pairs key) value
        → Contains (map (λ (p : ℕ × ℕ). p.1)
        (cond b (pair ∷ filter (λ (p : ℕ × ℕ). p.0 == key) pairs)
        (filter (λ (p : ℕ × ℕ). p.0 == key) pairs))) value
    at true rest = Contains-cons pair.1 value (values_at pairs key) rest
    at false rest = rest

-- and what holds of each pair holds of the values of a key
pub All-values_at : (Holds : ℕ → ℕ → Type 0) (pairs : List (ℕ × ℕ)) (key : ℕ)
    → All (λ pair. Holds pair.0 pair.1) pairs → All (Holds key) (values_at pairs key)
All-values_at Holds pairs key each =
    let test : ℕ × ℕ → Bool = λ (pair : ℕ × ℕ). pair.0 == key in
    let kept = All-filter test (λ (pair : ℕ × ℕ). Holds pair.0 pair.1) pairs each in
    All-map (Holds key) (λ (pair : ℕ × ℕ). pair.1) (filter test pairs) (λ i d inside.
    subst (λ n. Holds n (get_or (filter test pairs) i d).1)
    (eqb-true (get_or (filter test pairs) i d).0 key (filter_passes test pairs i d inside))
    (kept i d inside))

-- the groups of the pairs are the readers of each signal
pub AreReaders-grouped : (signals : List Signal) (pairs : List (ℕ × ℕ)) (groups : Groups)
    → All (λ signal. All (λ number. number < length signals) signal.fan_in) signals
    → AreAllReads signals (length signals) pairs → HasGroups (length signals) pairs groups
    → AreReaders signals groups
AreReaders-grouped signals pairs groups within reads grouped = record {
  long = grouped.long;
  each = λ read gate inside listed.
      All-contains (λ gate. Reads signals gate read) (group_of groups read) gate
      (rw (grouped.each read inside)
      (All-values_at (λ read gate. Reads signals gate read) pairs read reads.each)) listed;
  all = λ read gate reading.
      let inside = reads_within signals gate read within reading in
      rw (grouped.each read inside)
      (Contains-values_at pairs read gate
      (reads.all gate read (reader_within signals gate read reading) reading));
}

-- for each number below a limit its place in a list's first items, counted from 1, or 0
pub record ArePlaces (limit : ℕ) (order : List ℕ) (passed : ℕ) (places : List ℕ) : Type 0 where
  pub covers : length places ≡ limit
  pub each : (place : ℕ) → place < passed
      → slice_index places (slice_index order place) ≡ place + 1
  pub placed : (number : ℕ) → 0 < slice_index places number
      → HasPlaceInOrder order number (slice_index places number)

-- no number has a place in no items
pub ArePlaces-none : (limit : ℕ) (order : List ℕ) → ArePlaces limit order 0 (replicate limit 0)
ArePlaces-none limit order =
    grind (arith, length-replicate, cases_lt, get_or-replicate, get_or_past)

-- one more item's place
pub ArePlaces-more : (limit : ℕ) (order : List ℕ) (passed : ℕ) (places : List ℕ) (number : ℕ)
    → AllPairs (λ first second. first ≢ second) order → passed < length order
    → number ≡ get_or order passed 0 → number < limit → ArePlaces limit order passed places
    → ArePlaces limit order (passed + 1) (set places number (passed + 1))
ArePlaces-more limit order passed places number once inside read known so_far =
    grind (
      arith,
      length-set,
      cases_lt,
      get_or-set_other,
      cases_eq,
      slice_get-get_or,
      get_or-set_same,
    )

-- in an order of gates, places rise from what is read to what reads it
pub AreRanks-placed : (signals : List Signal) (order places : List ℕ)
    → IsTopologicalOrder signals order → ArePlaces (length signals) order (length order) places
    → AreRanks signals order places
AreRanks-placed signals order places sorted placed = record {
  covers = placed.covers;
  gates = λ gate is_one. placed.placed gate (omega (arith, (ranked gate is_one).2));
  others = λ number counted.
      is_gate_placed number (get_or places number 0) (placed.placed number counted);
  rising = λ gate read reading. elim (cases_lt 0 (get_or places read 0)) [
    | inl counted ↦
        let at = ranked gate (IsGate-from_Reads signals gate read reading) in
        let before = sorted.after at.0 gate read at.1 reading
        (is_gate_placed read (get_or places read 0) (placed.placed read counted)) in
        let prefix : before.0 < at.0 = omega (arith, before.1, length-take at.0 order) in
        let inside : before.0 < length order = omega (arith, before.1, length-take at.0 order) in
        let here : get_or order before.0 0 ≡ read = get_or_default order before.0 0 read inside
        ∙ (sym (get_or-take at.0 order before.0 read prefix) ∙ before.2) in
        omega (arith, stands before.0 read inside here, at.2)
    | inr none ↦ omega (arith, (ranked gate (IsGate-from_Reads signals gate read reading)).2)
  ];
}
  where
    stands : (place number : ℕ) → place < length order → get_or order place 0 ≡ number
        → get_or places number 0 ≡ place + 1
    stands place number inside here =
        subst (λ n. get_or places n 0 ≡ place + 1) here (placed.each place inside)

    is_gate_placed : (number place : ℕ) → HasPlaceInOrder order number place → IsGate signals number
    is_gate_placed number place at = All-contains (IsGate signals) order number sorted.gates (
      place - 1,
      slice_get_within order (place - 1) number at.here,
      get_or_from_slice_get order (place - 1) number number at.here,
    )

    ranked : (gate : ℕ) → IsGate signals gate
        → (place : ℕ) × (slice_get order place ≡ Some gate) × (get_or places gate 0 ≡ place + 1)
    ranked gate is_one =
        let found = sorted.all gate is_one in
        let here : get_or order found.0 0 ≡ gate =
        get_or_default order found.0 0 gate found.1 ∙ found.2 in (
          found.0,
          slice_get-get_or order found.0 0 found.1 ∙ ap Some here,
          stands found.0 gate found.1 here,
        )

-- two measures that agree at each item of a list have the same sum
sum_by-same : {X : Type 0} (f g : X → ℕ) (xs : List X)
    → ((i : ℕ) (d : X) → i < length xs → f (get_or xs i d) ≡ g (get_or xs i d))
    → sum_by f xs ≡ sum_by g xs
sum_by-same f g [] agree = refl
sum_by-same f g (x ∷ xs) agree = omega (
  arith,
  sum_by-cons f x xs,
  sum_by-cons g x xs,
  agree 0 x (omega arith),
  sum_by-same f g xs (λ i d inside. agree (suc i) d (omega arith)),
)

-- numbers that aren't equal have no more weight than all
pub distinct_sum-le : (weights numbers : List ℕ) → AllPairs (λ first second. first ≢ second) numbers
    → sum_by (λ number. get_or weights number 0) numbers ≤ sum weights
distinct_sum-le weights [] once = omega arith
distinct_sum-le weights (number ∷ numbers) once = elim (cases_lt number (length weights)) [
  | inl inside ↦ omega (
    arith,
    sum_by-cons (λ n. get_or weights n 0) number numbers,
    same,
    distinct_sum-le (set weights number 0) numbers later,
    sum_by-set (λ w. w) weights number 0 0 inside,
  )
  | inr past ↦ omega (
    arith,
    sum_by-cons (λ n. get_or weights n 0) number numbers,
    get_or_past weights number 0 past,
    distinct_sum-le weights numbers later,
  )
]
  where
    later : AllPairs (λ first second. first ≢ second) numbers
    later i j d before inside = once (suc i) (suc j) d (omega arith) (omega arith)

    same : sum_by (λ n. get_or weights n 0) numbers
        ≡ sum_by (λ n. get_or (set weights number 0) n 0) numbers
    same = sum_by-same (λ n. get_or weights n 0) (λ n. get_or (set weights number 0) n 0) numbers
        (λ i d inside.
        sym (get_or-set_other weights number (get_or numbers i d) 0 0
        (λ equal. once 0 (suc i) d (omega arith) (omega arith) (sym equal))))

-- so distinct numbers below a limit are no more than the limit
pub distinct_length-le : (limit : ℕ) (numbers : List ℕ)
    → AllPairs (λ first second. first ≢ second) numbers → All (λ number. number < limit) numbers
    → length numbers ≤ limit
distinct_length-le limit numbers once below = omega (
  arith,
  distinct_sum-le (replicate limit 1) numbers once,
  sum_by-replicate (λ x. x) limit 1,
  count numbers below,
)
  where
    count : (numbers : List ℕ) → All (λ number. number < limit) numbers
        → sum_by (λ number. get_or (replicate limit 1) number 0) numbers ≡ length numbers
    count [] below = refl
    count (number ∷ numbers) below = omega (
      arith,
      sum_by-cons (λ n. get_or (replicate limit 1) n 0) number numbers,
      get_or-replicate {A = ℕ} limit number 1 0 (below 0 number (omega arith)),
      count numbers (λ i d inside. below (suc i) d (omega arith)),
    )

-- so there are few gates
pub few_gates : (circuit : Circuit) (order : List ℕ) → IsTopologicalOrder circuit.signals order
    → length order ≤ 65537
few_gates circuit order sorted =
    let few = distinct_length-le (length circuit.signals) order sorted.once (λ i d inside.
    gate_within circuit.signals (get_or order i d) (sorted.gates i d inside)) in
    grind (arith, few, circuit.valid.few_signals)
