-- A circuit with the host keeps what a circuit is to keep.
use Rattle.cts_model.proofs.Vocabulary.{◌≡◌, ◌≢◌, ℕ, ◌<◌, Bool, true, false, List, [], ◌∷◌, ◌++◌, length, Some, IsTrue, get_or, inl, inr, refl, sym, ap, ◌∙◌, subst, arith, true≢false, slice_get, cases_lt, get_or-append, get_or-append_seam, length_push, All-push, All-weaker, list_any-append, list_any_at, sum_by_push, slice_get_within, get_or_from_slice_get, Signal, Circuit, is_host, is_valid, IsCircuit, IsHost, gate_inputs, has_host, host_name, host_signal, is_named, HasNoHost}
use Rattle.std.proofs.Common.{◌&&◌, All}
use Rattle.std.proofs.lemmas.List.Quantifiers.{all_pairs_push}
use Rattle.cts_model.specs.text.Names.{is_name, is_short}
use Rattle.cts_model.proofs.RegisterLists.{registers_push_some}

-- where no signal is the host, none at any place is
no_host_at : (signals : List Signal) → has_host signals ≡ false → (number : ℕ) (d : Signal)
    → number < length signals → is_host (get_or signals number d).kind ≡ false
no_host_at signals none number d within = at (is_host (get_or signals number d).kind) refl
  where
    at : (b : Bool) → is_host (get_or signals number d).kind ≡ b
        → is_host (get_or signals number d).kind ≡ false
    at false other = other
    at true host =
        absurd (true≢false
        (sym (list_any_at (λ signal. is_host signal.kind) signals number d within host) ∙ none))

-- the name of the host is no name of the format, so no other signal has it
other_name : (signal : Signal) → IsTrue (is_named signal) → is_host signal.kind ≡ false
    → signal.name ≢ host_name
other_name signal named other same =
    let format : IsTrue (is_name signal.name && is_short signal.name) = rw other at named in
    let here : IsTrue (is_name host_name && is_short host_name) =
    subst (λ name. IsTrue (is_name name && is_short name)) same format in
    true≢false (sym here)

module _ (circuit : Circuit) (none : HasNoHost circuit) where
  -- the signals with the host
  abbrev Hosted : List Signal
  Hosted = circuit.signals ++ host_signal circuit.outputs ∷ []

  -- a number that is in range stays so
  more : (number : ℕ) → number < length circuit.signals → number < length Hosted
  more number within = omega (arith, length_push circuit.signals (host_signal circuit.outputs))

  -- the host is among them
  hosted : has_host Hosted ≡ true
  hosted = list_any-append (λ signal. is_host signal.kind) circuit.signals
      (host_signal circuit.outputs ∷ []) ∙ rw none refl

  -- and it is the last
  host_last : (number : ℕ) (signal : Signal) → slice_get Hosted number ≡ Some signal
      → IsTrue (is_host signal.kind) → IsHost Hosted circuit.outputs number signal
  host_last number signal found host = elim (cases_lt number (length circuit.signals)) [
    | inl before ↦
        let same : get_or circuit.signals number signal ≡ signal =
        sym (get_or-append circuit.signals (host_signal circuit.outputs ∷ []) signal number before)
        ∙ get_or_from_slice_get Hosted number signal signal found in
        let other = no_host_at circuit.signals none number signal before in
        absurd (true≢false (sym host ∙ ap (λ s. is_host s.kind) (sym same) ∙ other))
    | inr suffix ↦
        let within = slice_get_within Hosted number signal found in
        let last : number ≡ length circuit.signals =
        omega (arith, length_push circuit.signals (host_signal circuit.outputs)) in
        let here : get_or Hosted (length circuit.signals) signal ≡ signal =
        subst (λ n. get_or Hosted n signal ≡ signal) last
        (get_or_from_slice_get Hosted number signal signal found) in
        let same : host_signal circuit.outputs ≡ signal =
        sym (get_or-append_seam circuit.signals (host_signal circuit.outputs) [] signal) ∙ here in
        record {
          last = omega (arith, last, length_push circuit.signals (host_signal circuit.outputs));
          captures = ap (λ s. s.fan_in) (sym same);
        }
  ]

  -- with the host the lists are a circuit's
  hosted_circuit : IsCircuit Hosted
      (circuit.registers ++ length circuit.signals ∷ []) circuit.outputs
  hosted_circuit = record {
    names = All-push (λ signal. IsTrue (is_named signal)) circuit.signals
        (host_signal circuit.outputs) circuit.valid.names refl;
    distinct = all_pairs_push (λ first second. first.name ≢ second.name) circuit.signals
        (host_signal circuit.outputs) circuit.valid.distinct
        (λ k d within. other_name (get_or circuit.signals k d) (circuit.valid.names k d within)
        (no_host_at circuit.signals none k d within));
    valid_inputs =
        All-push (λ signal. IsTrue (is_valid signal.kind (length signal.fan_in))) circuit.signals
        (host_signal circuit.outputs) circuit.valid.valid_inputs refl;
    read = All-push (λ signal. All (λ number. number < length Hosted) signal.fan_in) circuit.signals
        (host_signal circuit.outputs)
        (λ k d within. All-weaker (λ number. number < length circuit.signals)
        (λ number. number < length Hosted) more _ (circuit.valid.read k d within))
        (All-weaker (λ number. number < length circuit.signals)
        (λ number. number < length Hosted) more circuit.outputs circuit.valid.outputs_are);
    host = host_last;
    registers_are = ap (λ l. l ++ length circuit.signals ∷ []) circuit.valid.registers_are
        ∙ sym (registers_push_some circuit.signals (host_signal circuit.outputs) refl);
    some_register = omega (arith, length_push circuit.registers (length circuit.signals));
    outputs_are = All-weaker (λ number. number < length circuit.signals)
        (λ number. number < length Hosted) more circuit.outputs circuit.valid.outputs_are;
    outputs_once = circuit.valid.outputs_once;
    few_signals = rw hosted
        (let few = rw none at circuit.valid.few_signals in
        omega (arith, few, length_push circuit.signals (host_signal circuit.outputs)));
    few_registers = rw hosted
        (let few = rw none at circuit.valid.few_registers in
        omega (arith, few, length_push circuit.registers (length circuit.signals)));
    few_inputs =
        let few = circuit.valid.few_inputs in
        omega (arith, few, sum_by_push gate_inputs circuit.signals (host_signal circuit.outputs));
  }

  -- so are lists that are the same
  pub hosted_lists : (signals : List Signal) (registers : List ℕ) → signals ≡ Hosted
      → registers ≡ circuit.registers ++ length circuit.signals ∷ []
      → IsCircuit signals registers circuit.outputs
  hosted_lists signals registers same same' = rw (same, same') hosted_circuit
