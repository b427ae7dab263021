-- The circuit that a netlist denotes keeps what a circuit is to keep.
use Rattle.bench_reader.proofs.Vocabulary.{◌≡◌, ◌≢◌, ℕ, ◌+◌, ◌<◌, Bool, true, false, not, cond, if◌then◌else◌, ◌==◌, List, [], ◌∷◌, length, map, Option, Some, None, IfSome, IsSome, All, AllPairs, IsTrue, get_or, refl, sym, ap, ◌∙◌, arith, filter_map, enumerate_from, sum_by, option_map, bytes_eq, nat_tests, length-map, sum_by-cons, All-nil, All-cons, All-head, All-tail, All-map, All-filter, All-weaker, filter_passes, position-Some, Kind, is_register, is_gate, is_host, is_valid, kind_of, IsCircuit, is_named, register_number, registers_of, gate_inputs, Statement, Blank, Input, Output, Assign, Definition, definition_of, defined_names, register_count, gate_inputs_of, gate_input_count, number_of, signal_of, first_mentions, UsesDefined}
use Rattle.std.proofs.lemmas.List.Kept.{AllPairs-filter}
use Rattle.bench_reader.proofs.Lists.{All-filter_map, length-filter_map, AllPairs-map, AllPairs-cons}
use Rattle.bench_reader.proofs.ValidDefinitions.{AreValid}
use Rattle.bench_reader.proofs.Hostless.{IsHostless, no_host}

-- a name's number is below the count of the names
number_within : (names : List (List ℕ)) (name : List ℕ)
    → IfSome (number_of names name) (λ number. number < length names)
number_within names name = at (number_of names name) refl
  where
    at : (o : Option ℕ) → number_of names name ≡ o → IfSome o (λ number. number < length names)
    at None none = tt
    at (Some number) some = (position-Some (bytes_eq name) names number [] some).0

-- the numbers of names are
pub numbers_within : (names used : List (List ℕ))
    → All (λ number. number < length names) (filter_map (number_of names) used)
numbers_within names used = All-filter_map (number_of names) (λ _. Unit {0})
    (λ number. number < length names) (λ name _. number_within names name) used (λ k d within. tt)

-- what a definition reads is defined
abbrev pub HasDefinedInputs : List (List ℕ) → Definition → Type 0
HasDefinedInputs names definition = All (λ name. IsSome (number_of names name)) definition.inputs

-- a definition reads what its statement uses
pub inputs_defined : (names : List (List ℕ)) (statement : Statement) → UsesDefined names statement
    → IfSome (definition_of statement) (HasDefinedInputs names)
inputs_defined names Blank uses = tt
inputs_defined names (Input name) uses = All-nil _
inputs_defined names (Output name) uses = tt
inputs_defined names (Assign name word inputs) uses = at (kind_of word)
  where
    at : (o : Option Kind)
        → IfSome (option_map (λ kind. record { name = name; kind = kind; inputs = inputs }) o)
        (HasDefinedInputs names)
    at None = tt
    at (Some kind) = uses

-- as many registers are among the signals as are defined, from whatever number on they count
register_places : (names : List (List ℕ)) (n : ℕ) (definitions : List Definition)
    → length (filter_map register_number (enumerate_from n (map (signal_of names) definitions)))
    ≡ register_count definitions
register_places names n [] = refl
register_places names n (definition ∷ definitions) =
    at (is_register definition.kind) refl (register_places names (n + 1) definitions)
  where
    -- the first counts if it is one
    more : register_count (definition ∷ definitions)
        ≡ cond (is_register definition.kind) 1 0 + register_count definitions
    more = sum_by-cons (λ d. cond (is_register d.kind) 1 0) definition definitions

    at : (b : Bool) → is_register definition.kind ≡ b
        → length (filter_map register_number
        (enumerate_from (n + 1) (map (signal_of names) definitions))) ≡ register_count definitions
        → length (filter_map register_number
        (enumerate_from n (map (signal_of names) (definition ∷ definitions))))
        ≡ register_count (definition ∷ definitions)
    at true register rest = rw (more, register) (omega (arith, rest))
    at false other rest = rw (more, other) (omega (arith, rest))

-- so they are from the first on
pub length-registers_of : (names : List (List ℕ)) (definitions : List Definition)
    → length (registers_of (map (signal_of names) definitions)) ≡ register_count definitions
length-registers_of names definitions = register_places names 0 definitions

-- the gates have as many inputs as are given
gate_inputs_same : (names : List (List ℕ)) (definitions : List Definition)
    → All (HasDefinedInputs names) definitions
    → sum_by gate_inputs (map (signal_of names) definitions) ≡ gate_input_count definitions
gate_inputs_same names [] all = refl
gate_inputs_same names (definition ∷ definitions) all =
    let here : gate_inputs (signal_of names definition) ≡ gate_inputs_of definition =
    ap (λ n. if is_gate definition.kind then n else 0)
    (length-filter_map (number_of names) definition.inputs
    (All-head (HasDefinedInputs names) definition definitions all)) in
    let rest = gate_inputs_same names definitions
    (All-tail (HasDefinedInputs names) definition definitions all) in
    omega (
      arith,
      here,
      rest,
      sum_by-cons gate_inputs (signal_of names definition) (map (signal_of names) definitions),
      sum_by-cons gate_inputs_of definition definitions,
    )

-- first mentions are mentions
All-first_mentions : (P : ℕ → Type 0) (numbers : List ℕ) → All P numbers
    → All P (first_mentions numbers)
All-first_mentions P [] all = all
All-first_mentions P (number ∷ numbers) all =
    All-cons P number _ (All-head P number numbers all)
    (All-filter (λ other. not (other == number)) P (first_mentions numbers)
    (All-first_mentions P numbers (All-tail P number numbers all)))

-- and each stands once
once_first_mentions : (numbers : List ℕ)
    → AllPairs (λ first second. first ≢ second) (first_mentions numbers)
once_first_mentions [] = λ i j d before within. absurd (omega arith)
once_first_mentions (number ∷ numbers) =
    AllPairs-cons (λ first second. first ≢ second) number _
    (All-weaker (λ other. not (other == number) ≡ true) (λ other. number ≢ other)
    (λ other passes same. grind (arith, nat_tests)) _
    (filter_passes (λ other. not (other == number)) (first_mentions numbers)))
    (AllPairs-filter (λ first second. first ≢ second) (λ other. not (other == number))
    (first_mentions numbers) (once_first_mentions numbers))

-- definitions that are valid, and that read each other alone, make a circuit
pub circuit_from : (definitions : List Definition) (mentioned : List (List ℕ))
    → AreValid definitions → All IsHostless definitions
    → All (HasDefinedInputs (defined_names definitions)) definitions
    → 0 < register_count definitions
    → IsCircuit (map (signal_of (defined_names definitions)) definitions)
    (registers_of (map (signal_of (defined_names definitions)) definitions))
    (first_mentions (filter_map (number_of (defined_names definitions)) mentioned))
circuit_from definitions mentioned valid_inputs hostless defined some =
    let same_length : length (defined_names definitions)
    ≡ length (map (signal_of (defined_names definitions)) definitions) =
    length-map definitions (λ d. d.name)
    ∙ sym (length-map definitions (signal_of (defined_names definitions))) in
    record {
      names = All-map (λ signal. IsTrue (is_named signal)) (signal_of (defined_names definitions))
          definitions (λ k d within. rw (hostless k d within) (valid_inputs.names k d within));
      distinct = AllPairs-map (λ first second. first.name ≢ second.name)
          (signal_of (defined_names definitions)) definitions valid_inputs.distinct;
      valid_inputs = All-map (λ s. IsTrue (is_valid s.kind (length s.fan_in)))
          (signal_of (defined_names definitions)) definitions
          (λ k d within. rw (length-filter_map (number_of (defined_names definitions))
          (get_or definitions k d).inputs (defined k d within))
          (valid_inputs.valid_inputs k d within));
      read =
          All-map (λ s.
          All (λ number. number < length (map (signal_of (defined_names definitions)) definitions))
          s.fan_in) (signal_of (defined_names definitions)) definitions
          (λ k d within. rw (← same_length)
          (numbers_within (defined_names definitions) (get_or definitions k d).inputs));
      host = λ number signal here is.
          absurd (no_host (map (signal_of (defined_names definitions)) definitions) number signal
          (All-map (λ s. is_host s.kind ≡ false)
          (signal_of (defined_names definitions)) definitions hostless) here is);
      registers_are = refl;
      some_register =
          omega (arith, some, length-registers_of (defined_names definitions) definitions);
      outputs_are = rw (← same_length)
          (All-first_mentions (λ number. number < length (defined_names definitions)) _
          (numbers_within (defined_names definitions) mentioned));
      outputs_once = once_first_mentions _;
      few_signals = omega (
        arith,
        length-map definitions (signal_of (defined_names definitions)),
        valid_inputs.few_signals,
      );
      few_registers = omega (
        arith,
        valid_inputs.few_registers,
        length-registers_of (defined_names definitions) definitions,
      );
      few_inputs = omega (
        arith,
        valid_inputs.few_inputs,
        gate_inputs_same (defined_names definitions) definitions defined,
      );
    }
