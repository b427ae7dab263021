-- Netlists of the ISCAS'89 .bench format: the circuit that each tells, or the fault that it has.
use Rattle.std.specs.Prelude.{◌≡◌, ◌⊎◌, ℕ, List, [], map, Some, None}
use Rattle.std.specs.Option.{option_map_or}
use Rattle.std.specs.List.{slice_get}
use Rattle.cts_model.specs.declared.circuit.Circuit.{Circuit}
use Rattle.cts_model.specs.declared.signal.Signal.{Signal}
use Rattle.cts_model.specs.Vocabulary.{registers_of, outputs_of, signals_of, IsLoop, IsNamedLoop}
use Rattle.bench_reader.specs.declared.fault.BenchFault.{BenchFault}
use Rattle.bench_reader.specs.declared.fault.BenchFault.TheVariants.{CombLoop}
use Rattle.bench_reader.specs.Faults.{netlist_fault}

-- a text that is a netlist: it has no fault, and no gates read one another in a ring
pub record IsNetlist (text : List ℕ) : Type 0 where
  pub flawless : netlist_fault text ≡ None
  pub no_loop : (loop : List ℕ) → IsLoop (signals_of text) loop → ⊥

-- a netlist, and the circuit that its lines tell
pub record AcceptsNetlist (text : List ℕ) (circuit : Circuit) : Type 0 where
  pub netlist : IsNetlist text
  pub signals : circuit.signals ≡ signals_of text
  pub registers : circuit.registers ≡ registers_of (signals_of text)
  pub outputs : circuit.outputs ≡ outputs_of text

-- the names of signals, by their numbers
abbrev pub names_of_signals : List Signal → List ℕ → List (List ℕ)
names_of_signals signals numbers =
    map (λ number. option_map_or (λ signal. signal.name) (slice_get signals number) []) numbers

-- the lines make a circuit but for some gates that read one another in a ring of these names
pub record HasLoop (text : List ℕ) (names : List (List ℕ)) : Type 0 where
  pub flawless : netlist_fault text ≡ None
  pub loop : List ℕ
  pub named : IsNamedLoop (signals_of text) loop
  pub names_are : names ≡ names_of_signals (signals_of text) loop

-- the fault that a text has; of several rings any may be named
abbrev pub RefusesNetlist : (text : List ℕ) → BenchFault → Type 0
RefusesNetlist text fault = (netlist_fault text ≡ Some fault)
    ⊎ ((names : List (List ℕ)) × (fault ≡ CombLoop names) × HasLoop text names)
