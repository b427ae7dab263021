-- The pairs of a gate that is read and one that reads it: what each says, and that none is missing.
use Rattle.gate_order.proofs.Vocabulary.{◌≡◌, ◌+◌, ◌<◌, ◌≤◌, ℕ, zero, suc, Bool, true, false, cond, List, [], ◌∷◌, ◌++◌, length, take, get_or, All, Contains, Option, Some, None, IsTrue, inl, inr, refl, sym, ◌∙◌, ap, subst, arith, cons_option, slice_get, cases_lt, take_more, length-append, sum_by_more, All-nil, All-cons, All-head, All-tail, All-append, All-contains_itself, Contains-append_left, Contains-append_right, filter_map-append, get_or_from_slice_get, slice_get_past, slice_get_within, Signal, IsGate, Reads, is_gate_at, reads_among, reads_by, IsRead, AreReads}
use Rattle.std.proofs.Common.{IsSomeAnd}
use Rattle.std.specs.Option.{option_map_or}
use Rattle.cts_model.specs.Vocabulary.{is_gate, gate_inputs}

-- what the test of a number says
pub IsGate-from_test : (signals : List Signal) (number : ℕ) → is_gate_at signals number ≡ true
    → IsGate signals number
IsGate-from_test signals number passes = at (slice_get signals number) passes
  where
    at : (o : Option Signal) → option_map_or (λ signal. is_gate signal.kind) o false ≡ true
        → IsSomeAnd o (λ signal. IsTrue (is_gate signal.kind))
    at None e = cc
    at (Some signal) e = e

-- and that it passes every gate
pub test_from_IsGate : (signals : List Signal) (number : ℕ) → IsGate signals number
    → is_gate_at signals number ≡ true
test_from_IsGate signals number gate = at (slice_get signals number) gate
  where
    at : (o : Option Signal) → IsSomeAnd o (λ signal. IsTrue (is_gate signal.kind))
        → option_map_or (λ signal. is_gate signal.kind) o false ≡ true
    at None e = absurd e
    at (Some signal) e = e

-- a gate is one of the signals
pub gate_within : (signals : List Signal) (gate : ℕ) → IsGate signals gate → gate < length signals
gate_within signals gate is_one = elim (cases_lt gate (length signals)) [
  | inl within ↦ within
  | inr past ↦ absurd (rw (slice_get_past signals gate past) at is_one)
]

-- a gate that reads is a gate
pub IsGate-from_Reads : (signals : List Signal) (gate read : ℕ) → Reads signals gate read
    → IsGate signals gate
IsGate-from_Reads signals gate read reads = at (slice_get signals gate) reads
  where
    at : (o : Option Signal)
        → IsSomeAnd o (λ signal. IsTrue (is_gate signal.kind) × Contains signal.fan_in read)
        → IsSomeAnd o (λ signal. IsTrue (is_gate signal.kind))
    at None e = absurd e
    at (Some signal) e = e.0

-- the pairs of one more input
pub reads_among_more : (signals : List Signal) (gate : ℕ) (inputs : List ℕ) (i d : ℕ)
    → i < length inputs → reads_among signals gate (take (i + 1) inputs)
    ≡ reads_among signals gate (take i inputs) ++ reads_among signals gate (get_or inputs i d ∷ [])
reads_among_more signals gate inputs i d within =
    ap (reads_among signals gate) (take_more inputs i d within)
    ∙ filter_map-append (λ input. cond (is_gate_at signals input) (Some (input, gate)) None)
    (take i inputs) (get_or inputs i d ∷ [])

-- there are no more pairs than inputs
reads_among-le : (signals : List Signal) (gate : ℕ) (inputs : List ℕ)
    → length (reads_among signals gate inputs) ≤ length inputs
reads_among-le signals gate [] = omega arith
reads_among-le signals gate (input ∷ inputs) =
    at (is_gate_at signals input) (reads_among-le signals gate inputs)
  where
    at : (b : Bool) → length (reads_among signals gate inputs) ≤ length inputs
        → length (cons_option (cond b (Some (input, gate)) None) (reads_among signals gate inputs))
        ≤ suc (length inputs)
    at true rest = omega arith
    at false rest = omega arith

-- each of them is read by the gate
reads_among_are : (signals : List Signal) (gate : ℕ) (signal : Signal)
    → slice_get signals gate ≡ Some signal → is_gate signal.kind ≡ true → (inputs : List ℕ)
    → All (Contains signal.fan_in) inputs → All (IsRead signals) (reads_among signals gate inputs)
reads_among_are signals gate signal here is_one [] all = All-nil (IsRead signals)
reads_among_are signals gate signal here is_one (input ∷ inputs) all =
    at (is_gate_at signals input) refl
    (reads_among_are signals gate signal here is_one inputs
    (All-tail (Contains signal.fan_in) input inputs all))
  where
    at : (b : Bool) → is_gate_at signals input ≡ b
        → All (IsRead signals) (reads_among signals gate inputs) → All (IsRead signals)
        (cons_option (cond b (Some (input, gate)) None) (reads_among signals gate inputs))
    at true passes rest =
        All-cons (IsRead signals) (input, gate) (reads_among signals gate inputs) (
          subst (λ o.
              IsSomeAnd o (λ other. IsTrue (is_gate other.kind) × Contains other.fan_in input))
              (sym here) (is_one, All-head (Contains signal.fan_in) input inputs all),
          IsGate-from_test signals input passes,
        )
        rest
    at false fails rest = rest

-- a list with one more item before contains what it contained
pub Contains-cons : {X : Type 0} (x y : X) (xs : List X) → Contains xs y → Contains (x ∷ xs) y
Contains-cons x y xs (k, within, here) = (suc k, omega arith, here)

-- an input that is a gate has its pair
reads_among_all : (signals : List Signal) (gate : ℕ) (inputs : List ℕ) (read : ℕ)
    → is_gate_at signals read ≡ true → Contains inputs read
    → Contains (reads_among signals gate inputs) (read, gate)
reads_among_all signals gate [] read passes (k, within, here) = absurd (omega arith)
reads_among_all signals gate (input ∷ inputs) read passes (zero, within, here) =
    let first : is_gate_at signals input ≡ true = ap (is_gate_at signals) here ∙ passes in
    rw first (zero, omega arith, ap (λ n. (n, gate)) here)
reads_among_all signals gate (input ∷ inputs) read passes (suc k, within, here) =
    at (is_gate_at signals input)
    (reads_among_all signals gate inputs read passes (k, omega arith, here))
  where
    at : (b : Bool) → Contains (reads_among signals gate inputs) (read, gate)
        → Contains
        (cons_option (cond b (Some (input, gate)) None) (reads_among signals gate inputs))
        (read, gate)
    at true rest = Contains-cons (input, gate) (read, gate) (reads_among signals gate inputs) rest
    at false rest = rest

-- no pairs of no signals
pub AreReads-none : (signals : List Signal) → AreReads signals 0 []
AreReads-none signals = record {
  each = All-nil (IsRead signals);
  all = λ gate read lower reads is_one. absurd (omega arith);
  few = omega arith;
}

-- the pairs of one more signal
pub AreReads-more : (signals : List Signal) (below : ℕ) (pairs : List (ℕ × ℕ)) (signal : Signal)
    → slice_get signals below ≡ Some signal → AreReads signals below pairs
    → AreReads signals (below + 1) (pairs ++ reads_by signals signal below)
AreReads-more signals below pairs signal here so_far = record {
  each = All-append (IsRead signals) pairs (reads_by signals signal below) so_far.each
      (each (is_gate signal.kind) refl);
  all = λ gate read lower reads is_one. elim (cases_lt gate below) [
    | inl earlier ↦ Contains-append_left pairs (reads_by signals signal below) (read, gate)
        (so_far.all gate read earlier reads is_one)
    | inr last ↦
        let same : gate ≡ below = omega arith in
        Contains-append_right pairs (reads_by signals signal below) (read, gate)
        (subst (λ n. Contains (reads_by signals signal below) (read, n)) (sym same)
        (all read (rw (same, here) at reads) is_one))
  ];
  few = omega (
    arith,
    length-append pairs (reads_by signals signal below),
    so_far.few,
    few (is_gate signal.kind),
    sum_by_more gate_inputs signals below signal (slice_get_within signals below signal here),
    ap gate_inputs (get_or_from_slice_get signals below signal signal here),
  );
}
  where
    each : (b : Bool) → is_gate signal.kind ≡ b
        → All (IsRead signals) (cond b (reads_among signals below signal.fan_in) [])
    each true is_one = reads_among_are signals below signal here is_one signal.fan_in
        (All-contains_itself signal.fan_in)
    each false other = All-nil (IsRead signals)

    all : (read : ℕ) → IsTrue (is_gate signal.kind) × Contains signal.fan_in read
        → IsGate signals read → Contains (reads_by signals signal below) (read, below)
    all read (is_one, listed) gate =
        rw is_one (reads_among_all signals below signal.fan_in read
        (test_from_IsGate signals read gate) listed)

    few : (b : Bool)
        → length (cond b (reads_among signals below signal.fan_in) [])
        ≤ cond b (length signal.fan_in) 0
    few true = reads_among-le signals below signal.fan_in
    few false = omega arith
