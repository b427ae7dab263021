-- The first input of a gate that waits.
use Rattle.gate_order.proofs.Vocabulary.{ℕ, zero, suc, ◌≡◌, ◌<◌, Bool, true, false, cond, List, [], ◌∷◌, length, Some, refl, sym, subst, arith, get_or, nat_lt, IsSome, find, slice_index, get_or_past, slice_get_read, nat_tests, Signal, Reads, AllWait}
use Rattle.std.specs.Prelude.{Contains, slice_get}

-- the first item that passes is one of the items, and passes
found_passes : (passes : ℕ → Bool) (items : List ℕ) (item : ℕ) → find passes items ≡ Some item
    → Contains items item × (passes item ≡ true)
found_passes passes [] item found = cc
found_passes passes (first ∷ items) item found =
    at (passes first) refl found (found_passes passes items item)
  where
    later : Contains items item × (passes item ≡ true)
        → Contains (first ∷ items) item × (passes item ≡ true)
    later ((place, within, same), right) = ((suc place, omega arith, same), right)

    at : (b : Bool) → passes first ≡ b → cond b (Some first) (find passes items) ≡ Some item
        → (find passes items ≡ Some item → Contains items item × (passes item ≡ true))
        → Contains (first ∷ items) item × (passes item ≡ true)
    at true right found rest =
        let same : first ≡ item = cc found in
        ((0, omega arith, same), subst (λ n. passes n ≡ true) same right)
    at false wrong found rest = later (rest found)

-- one is found where an item passes
finds : (passes : ℕ → Bool) (items : List ℕ) (item : ℕ) → Contains items item → passes item ≡ true
    → IsSome (find passes items)
finds passes [] item (place, within, same) right = absurd (omega arith)
finds passes (first ∷ items) item (zero, within, same) right =
    let here : passes first ≡ true = subst (λ n. passes n ≡ true) (sym same) right in rw here refl
finds passes (first ∷ items) item (suc place, within, same) right =
    at (passes first) (finds passes items item (place, omega arith, same) right)
  where
    at : (b : Bool) → IsSome (find passes items) → IsSome (cond b (Some first) (find passes items))
    at true rest = refl
    at false rest = rest

-- whether the number of a signal isn't 0
abbrev pub waits : List ℕ → ℕ → Bool
waits waiting number = nat_lt 0 (slice_index waiting number)

-- a signal that waits is one of the signals
pub waits_within : (waiting : List ℕ) (number : ℕ) → 0 < slice_index waiting number
    → number < length waiting
waits_within waiting number waiting_number = grind (arith, get_or_past waiting number 0)

-- the signal that was read at the place of a gate that waits
read_at : (signals : List Signal) (waiting : List ℕ) (gate : ℕ) → AllWait signals waiting
    → 0 < slice_index waiting gate → (signal : Signal) → signal ≡ get_or signals gate signal
    → slice_get signals gate ≡ Some signal
read_at signals waiting gate wait waiting_gate signal read = slice_get_read signals
    (length waiting) gate signal wait.covers (waits_within waiting gate waiting_gate) read

-- a gate that waits has an input that waits
pub finds_input : (signals : List Signal) (waiting : List ℕ) (gate : ℕ) → AllWait signals waiting
    → 0 < slice_index waiting gate → (signal : Signal) → signal ≡ get_or signals gate signal
    → IsSome (find (waits waiting) signal.fan_in)
finds_input signals waiting gate wait waiting_gate signal read =
    let input = wait.each gate waiting_gate in
    let reads = rw (read_at signals waiting gate wait waiting_gate signal read) at input.1 in
    finds (waits waiting) signal.fan_in input.0 reads.1 (grind (arith, nat_tests, input.2))

-- the first such input is read by the gate, and waits
pub found_input : (signals : List Signal) (waiting : List ℕ) (gate : ℕ) → AllWait signals waiting
    → 0 < slice_index waiting gate → (signal : Signal) → signal ≡ get_or signals gate signal
    → (read : ℕ) → find (waits waiting) signal.fan_in ≡ Some read
    → Reads signals gate read × (0 < slice_index waiting read)
found_input signals waiting gate wait waiting_gate signal read number found =
    let input = wait.each gate waiting_gate in
    let here = read_at signals waiting gate wait waiting_gate signal read in
    let reads = rw here at input.1 in
    let passed = found_passes (waits waiting) signal.fan_in number found in
    (rw here (reads.0, passed.0), grind (arith, nat_tests, passed.1))
