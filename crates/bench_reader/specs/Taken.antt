-- What the reader has taken in from the lines so far.
use Rattle.std.specs.Prelude.{◌≡◌, ◌+◌, ℕ, Bool, nat_le, nat_lt, if◌then◌else◌, List, [], ◌∷◌, ◌++◌, length, map, Option, Some, None}
use Rattle.std.specs.Option.{option_map}
use Rattle.std.specs.List.{filter_map, list_any}
use Rattle.std.specs.Str.{bytes_eq}
use Rattle.cts_model.specs.declared.kind.Kind.{Kind}
use Rattle.cts_model.specs.declared.circuit.Circuit.{Circuit}
use Rattle.cts_model.specs.Vocabulary.{is_register, is_gate, registers_of, mention_of, definitions_in, defined_names, register_count, gate_input_count, statements_in, signal_of, signals_of, outputs_of, number_of, first_mentions}
use Rattle.bench_reader.specs.declared.fault.Which.{Which}
use Rattle.bench_reader.specs.declared.fault.Which.TheVariants.{Name, Signals, Registers, Inputs}
use Rattle.bench_reader.specs.declared.fault.BenchFault.{BenchFault}
use Rattle.bench_reader.specs.declared.fault.BenchFault.TheVariants.{SignalTwice, TooLarge}
use Rattle.bench_reader.specs.Faults.{netlist_fault}
use Rattle.bench_reader.specs.Uses.{AreDefined}
use Rattle.bench_reader.specs.declared.definitions.Definitions.{Definitions}
use Rattle.bench_reader.specs.declared.circuit_parts.CircuitParts.{CircuitParts}

-- these are the definitions of the lines
pub record HasDefinitions (definitions : Definitions) (lines : List (List ℕ)) : Type 0 where
  pub names : definitions.names ≡ defined_names (definitions_in lines)
  pub registers : definitions.registers ≡ register_count (definitions_in lines)
  pub gate_inputs : definitions.gate_inputs ≡ gate_input_count (definitions_in lines)

-- a definition of this name, kind and number of inputs is added
pub record Adds (old new : Definitions) (name : List ℕ) (kind : Kind) (inputs : ℕ) : Type 0 where
  pub names : new.names ≡ old.names ++ name ∷ []
  pub registers : new.registers ≡ old.registers + (if is_register kind then 1 else 0)
  pub gate_inputs : new.gate_inputs ≡ old.gate_inputs + (if is_gate kind then inputs else 0)

-- the first limit that one more definition passes, its names aside
abbrev pub excess_after : Definitions → Kind → ℕ → Option Which
excess_after definitions kind inputs =
    let registers = definitions.registers + (if is_register kind then 1 else 0) in
    let gate_inputs = definitions.gate_inputs + (if is_gate kind then inputs else 0) in
    if nat_le 65536 (length definitions.names) then Some Signals
    else if nat_lt 4096 registers then Some Registers
    else if nat_lt 262144 gate_inputs then Some Inputs
    else None

-- what is wrong with one more definition, in a line of this number, that has a number of inputs
-- which its kind may have
abbrev pub fault_after : (number : ℕ) → Definitions → List ℕ → Kind → ℕ → Bool → Option BenchFault
fault_after number definitions name kind inputs short =
    if list_any (bytes_eq name) definitions.names then Some (SignalTwice number)
    else option_map (TooLarge number)
    (if short then excess_after definitions kind inputs else Some Name)

-- these are the parts that the lines tell, where the names that all lines define are known
pub record HasParts (names : List (List ℕ)) (parts : CircuitParts) (lines : List (List ℕ))
    : Type 0 where
  pub signals_are : parts.signals ≡ map (signal_of names) (definitions_in lines)
  pub registers_are : parts.registers ≡ registers_of parts.signals
  pub outputs_are : parts.outputs.keys
      ≡ first_mentions (filter_map (number_of names) (filter_map mention_of (statements_in lines)))
  pub defined : AreDefined names lines

-- the text has no fault but that some of its gates may read one another in a ring, and this is the
-- circuit that it tells
pub record DenotesCircuit (text : List ℕ) (circuit : Circuit) : Type 0 where
  pub flawless : netlist_fault text ≡ None
  pub signals : circuit.signals ≡ signals_of text
  pub registers : circuit.registers ≡ registers_of (signals_of text)
  pub outputs : circuit.outputs ≡ outputs_of text
