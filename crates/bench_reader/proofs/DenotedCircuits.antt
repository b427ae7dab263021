-- What the circuit is whose parts the lines tell.
use Rattle.bench_reader.proofs.Vocabulary.{◌≡◌, ℕ, ◌<◌, ◌==◌, if◌then◌else◌, Option, Some, None, inl, inr, List, length, map, ap, ◌∙◌, subst, arith, filter_map, option_or, IsFaultOf, first_fault, lines_of, IsCircuit, registers_of, definition_of, mention_of, statements_in, definitions_in, register_count, names_in, signal_of, BenchFault, CircuitParts, bench_line_fault, netlist_fault, use_fault, HasParts, DenotesCircuit, UsesDefined}
use Rattle.std.proofs.lemmas.Bool.{eq-eqb, ne_eqb}
use Rattle.cts_model.specs.declared.circuit.Circuit.{Circuit}
use Rattle.cts_model.specs.Vocabulary.{HasNoHost}
use Rattle.bench_reader.specs.declared.fault.BenchFault.TheVariants as faults
use Rattle.bench_reader.proofs.Lists.{All-filter_map}
use Rattle.bench_reader.proofs.UseFaults.{none_undefined}
use Rattle.bench_reader.proofs.ValidDefinitions.{valid_lines}
use Rattle.bench_reader.proofs.Hostless.{hostless_lines, has_host-lines}
use Rattle.bench_reader.proofs.NetlistCircuits.{HasDefinedInputs, inputs_defined, length-registers_of, circuit_from}

module _ (text : List ℕ) (names : List (List ℕ)) (parts : CircuitParts)
    (flawless : first_fault bench_line_fault text ≡ None) (known : names ≡ names_in text)
    (has : HasParts names parts (lines_of text)) where
  -- the parts, by the names that the text defines
  has_here : HasParts (names_in text) parts (lines_of text)
  has_here = subst (λ n. HasParts n parts (lines_of text)) known has

  -- as many registers are given as are defined
  registers_counted : length parts.registers ≡ register_count (definitions_in (lines_of text))
  registers_counted =
      let registers : parts.registers
      ≡ registers_of (map (signal_of (names_in text)) (definitions_in (lines_of text))) =
      has_here.registers_are ∙ ap registers_of has_here.signals_are in
      ap length registers ∙ length-registers_of _ (definitions_in (lines_of text))

  -- where each line passes, only a register may be missing
  by_registers : netlist_fault text
      ≡ (if register_count (definitions_in (lines_of text)) == 0 then Some faults.NoRegisters
      else None)
  by_registers =
      let defined = none_undefined (names_in text) (lines_of text) has_here.defined in
      λ i. option_or (flawless i) (option_or (defined i)
      (if register_count (definitions_in (lines_of text)) == 0 then Some faults.NoRegisters
      else None))

  -- without a register that is their fault
  pub no_registers : length parts.registers ≡ 0 → netlist_fault text ≡ Some faults.NoRegisters
  no_registers none = by_registers ∙ ap (λ b. if b then Some faults.NoRegisters else None)
      (eq-eqb (register_count (definitions_in (lines_of text))) 0
      (omega (arith, registers_counted)))

  module _ (some : 0 < length parts.registers) (outputs : List ℕ)
      (same : outputs ≡ parts.outputs.keys) where
    -- with a register the parts are a circuit
    pub parts_circuit : IsCircuit parts.signals parts.registers outputs
    parts_circuit =
        let defined = All-filter_map definition_of (UsesDefined (names_in text))
        (HasDefinedInputs (names_in text)) (inputs_defined _)
        (statements_in (lines_of text)) has_here.defined in
        rw (has_here.registers_are, has_here.signals_are, same, has_here.outputs_are)
        (circuit_from (definitions_in (lines_of text))
        (filter_map mention_of (statements_in (lines_of text)))
        (valid_lines (lines_of text) flawless) (hostless_lines (lines_of text)) defined
        (omega (arith, registers_counted)))

    -- which the text denotes
    pub parts_denoted : (circuit : Circuit) → circuit.signals ≡ parts.signals
        → circuit.registers ≡ parts.registers → circuit.outputs ≡ outputs
        → DenotesCircuit text circuit
    parts_denoted circuit signals registers outputs_here = record {
      flawless = by_registers ∙ ap (λ b. if b then Some faults.NoRegisters else None)
          (ne_eqb (register_count (definitions_in (lines_of text))) 0
          (λ zero. omega (arith, zero, registers_counted)));
      signals = signals ∙ has_here.signals_are;
      registers = registers ∙ has_here.registers_are ∙ ap registers_of has_here.signals_are;
      outputs = outputs_here ∙ same ∙ has_here.outputs_are;
    }

-- it has no host
pub denoted_hostless : (text : List ℕ) (circuit : Circuit) → DenotesCircuit text circuit
    → HasNoHost circuit
denoted_hostless text circuit denoted =
    rw denoted.signals (has_host-lines (names_in text) (lines_of text))

module _ (text : List ℕ) (fault : BenchFault) where
  -- the fault of a text, by that of a line and by that of a use
  abbrev by_faults : (line used : Option BenchFault) → Option BenchFault
  by_faults line used = option_or line (option_or used
      (if register_count (definitions_in (lines_of text)) == 0 then Some faults.NoRegisters
      else None))

  -- what the walk over the lines refuses is the fault of the text
  pub line_refused : IsFaultOf faults.NoMemory (first_fault bench_line_fault text) fault
      → IsFaultOf faults.NoMemory (netlist_fault text) fault
  line_refused (inl found) =
      inl (ap (λ it. by_faults it (first_fault (use_fault (names_in text)) text)) found)
  line_refused (inr memory) = inr memory

  -- and so is what the walk over uses refuses
  pub use_refused : first_fault bench_line_fault text ≡ None
      → IsFaultOf faults.NoMemory (first_fault (use_fault (names_in text)) text) fault
      → IsFaultOf faults.NoMemory (netlist_fault text) fault
  use_refused flawless (inl found) = inl (λ i. by_faults (flawless i) (found i))
  use_refused flawless (inr memory) = inr memory
