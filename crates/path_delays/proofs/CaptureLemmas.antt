-- What registers capture: from the pairs, register by register, to the groups by signal.
use Rattle.path_delays.proofs.Vocabulary.{ℕ, ◌≡◌, ◌<◌, ◌≤◌, ◌+◌, ◌*◌, Bool, true, false, cond, IsTrue, List, ◌++◌, length, map, get_or, All, Contains, Option, Some, None, refl, subst, arith, inl, inr, slice_get, option_and_then, cases_lt, length-append, length-map, All-map, All-append, All-contains, All-contains_itself, Contains-append_left, Contains-append_right, slice_get_within, get_or_from_slice_get, Kind, And, Nand, Or, Nor, Not, Xor, Xnor, Buff, Input, Dff, Host, Signal, Circuit, is_host, is_valid, has_host, register_signal, Captures, Groups, group_of, HasGroups, has_number, AreInserted, AreCapturedBy, AreAllCaptures, AreCapturersOf, AreCapturedBelow}
use Rattle.std.proofs.lemmas.Bool.Decides.{nat_tests}
use Rattle.path_delays.proofs.ReachedPairs.{captured_within}
use Rattle.path_delays.proofs.NetworkLemmas.{Contains-map, Contains-values_at, All-values_at, distinct_length-le}

-- what isn't the host has few inputs
pub few_inputs : (kind : Kind) (inputs : ℕ) → is_host kind ≡ false → IsTrue (is_valid kind inputs)
    → inputs ≤ 1024
few_inputs And inputs other valid_inputs = grind (arith, nat_tests)
few_inputs Nand inputs other valid_inputs = grind (arith, nat_tests)
few_inputs Or inputs other valid_inputs = grind (arith, nat_tests)
few_inputs Nor inputs other valid_inputs = grind (arith, nat_tests)
few_inputs Not inputs other valid_inputs = grind (arith, nat_tests)
few_inputs Xor inputs other valid_inputs = grind (arith, nat_tests)
few_inputs Xnor inputs other valid_inputs = grind (arith, nat_tests)
few_inputs Buff inputs other valid_inputs = grind (arith, nat_tests)
few_inputs Input inputs other valid_inputs = grind (arith, nat_tests)
few_inputs Dff inputs other valid_inputs = grind (arith, nat_tests)
few_inputs Host inputs other valid_inputs = cc other

-- the host is one at most
one_host : (b : Bool) → cond {A = ℕ} b 1 0 ≤ 1
one_host true = omega arith
one_host false = omega arith

module _ (circuit : Circuit) where
  -- there are few signals and registers, the host counted
  pub few_signals : length circuit.signals ≤ 65537
  few_signals = omega (arith, circuit.valid.few_signals, one_host (has_host circuit.signals))

  pub few_registers : length circuit.registers ≤ 4097
  few_registers = omega (arith, circuit.valid.few_registers, one_host (has_host circuit.signals))

  -- so there are few outputs
  few_outputs : length circuit.outputs ≤ 65537
  few_outputs = grind (arith, distinct_length-le, few_signals)

  -- a register captures few signals
  pub few_captured : (register : ℕ) (signal : Signal)
      → register_signal circuit register ≡ Some signal → length signal.fan_in ≤ 65537
  few_captured register signal found = at (slice_get circuit.registers register) found
    where
      by : (number : ℕ) → slice_get circuit.signals number ≡ Some signal → (b : Bool)
          → is_host signal.kind ≡ b → length signal.fan_in ≤ 65537
      by number here true host =
          rw (circuit.valid.host number signal here (rw host refl)).captures few_outputs
      by number here false other =
          let valid_inputs = subst (λ (s : Signal). IsTrue (is_valid s.kind (length s.fan_in)))
          (get_or_from_slice_get circuit.signals number signal signal here)
          (circuit.valid.valid_inputs number signal
          (slice_get_within circuit.signals number signal here)) in
          omega (arith, few_inputs signal.kind (length signal.fan_in) other valid_inputs)

      at : (listed : Option ℕ) → option_and_then (slice_get circuit.signals) listed ≡ Some signal
          → length signal.fan_in ≤ 65537
      at None found = cc found
      at (Some number) found = by number found (is_host signal.kind) refl

  -- one register more
  pub captures_more : (register : ℕ) (pairs : List (ℕ × ℕ)) (captured : List ℕ)
      → AreCapturedBy circuit register captured
      → All (λ signal. signal < length circuit.signals) captured → length captured ≤ 65537
      → AreAllCaptures circuit register pairs
      → AreAllCaptures circuit (register + 1) (pairs ++ map (λ signal. (signal, register)) captured)
  captures_more register pairs captured exact within few so_far = record {
    signals =
        All-append (λ (pair : ℕ × ℕ). pair.0 < length circuit.signals) pairs more so_far.signals
        (All-map (λ (pair : ℕ × ℕ). pair.0 < length circuit.signals) with captured within);
    each = All-append (λ (pair : ℕ × ℕ). Captures circuit pair.1 pair.0) pairs more so_far.each
        (All-map (λ (pair : ℕ × ℕ). Captures circuit pair.1 pair.0) with captured
        (λ i d inside. (exact (get_or captured i d)).0 (All-contains_itself captured i d inside)));
    all = λ other signal lower captures. elim (cases_lt other register) [
      | inl earlier ↦
          Contains-append_left pairs more (signal, other) (so_far.all other signal earlier captures)
      | inr last ↦
          let same : register ≡ other = omega arith in
          Contains-append_right pairs more (signal, other)
          (subst (λ n. Contains more (signal, n)) same
          (Contains-map with captured signal ((exact signal).1 (rw (← same) at captures))))
    ];
    few = omega (arith, length-append pairs more, length-map captured with, so_far.few);
  }
    where
      with : ℕ → ℕ × ℕ
      with signal = (signal, register)

      more : List (ℕ × ℕ)
      more = map with captured

  -- what captures a signal is a register, and what it captures a signal
  pub capture_within : (register signal : ℕ) → Captures circuit register signal
      → (register < length circuit.registers) × (signal < length circuit.signals)
  capture_within register signal captures =
      grind (arith, slice_get_within, All-contains, captured_within)

  -- grouped by signal they are the registers that capture each
  pub captures_grouped : (pairs : List (ℕ × ℕ)) (groups : Groups)
      → AreAllCaptures circuit (length circuit.registers) pairs
      → HasGroups (length circuit.signals) pairs groups → AreCapturersOf circuit groups
  captures_grouped pairs groups captures grouped = record {
    long = grouped.long;
    each = λ signal register inside listed.
        All-contains (λ register. Captures circuit register signal)
        (group_of groups signal) register
        (rw (grouped.each signal inside)
        (All-values_at
        (λ signal register. Captures circuit register signal) pairs signal captures.each)) listed;
    all = λ signal register captured.
        let within = capture_within register signal captured in
        rw (grouped.each signal within.1)
        (Contains-values_at pairs signal register (captures.all register signal within.0 captured));
  }

  -- no register captures none of an empty set
  pub none_captured : (words : List ℕ) → length circuit.signals < 64 * length words
      → 64 * length words ≤ length circuit.signals + 64
      → ((number : ℕ) → has_number words number ≡ false) → AreCapturedBelow circuit 0 words
  none_captured words room small empty = grind (arith)

  -- what one register more captures is put in
  pub captured_more : (register : ℕ) (captured words later : List ℕ)
      → AreCapturedBy circuit register captured
      → All (λ signal. signal < length circuit.signals) captured → AreInserted captured words later
      → AreCapturedBelow circuit register words → AreCapturedBelow circuit (register + 1) later
  captured_more register captured words later exact within inserted so_far = record {
    room = omega (arith, so_far.room, inserted.covers);
    small = omega (arith, so_far.small, inserted.covers);
    each = λ signal held. elim ((inserted.each signal).0 held) [
      | inl listed ↦
          All-contains (λ number. number < length circuit.signals) captured signal within listed
      | inr earlier ↦ so_far.each signal earlier
    ];
    all = λ other signal lower captures. elim (cases_lt other register) [
      | inl earlier ↦ (inserted.each signal).1 (inr (so_far.all other signal earlier captures))
      | inr last ↦
          let same : other ≡ register = omega arith in
          (inserted.each signal).1 (inl ((exact signal).1 (rw same at captures)))
    ];
  }
