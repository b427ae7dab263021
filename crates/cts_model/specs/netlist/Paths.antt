-- Paths of combinational logic between registers (Fishburn, "Clock Skew Optimization", 1990): lists
-- of signals.
use Rattle.std.specs.Prelude.{◌≡◌, ◌≢◌, ◌≤◌, ℕ, IsTrue, MatchBool, List, [], ◌∷◌, All, AllPairs, Contains, Option, Some, IsSomeAnd, slice_get}
use Rattle.std.specs.Option.{option_and_then, option_map_or}
use Rattle.cts_model.specs.declared.signal.Signal.{Signal}
use Rattle.cts_model.specs.declared.circuit.Circuit.{Circuit}
use Rattle.cts_model.specs.netlist.Kinds.{is_gate, is_host, is_input}

-- the signal of this number is a gate
abbrev pub IsGate : List Signal → ℕ → Type 0
IsGate signals number = IsSomeAnd (slice_get signals number)
    (λ signal. IsTrue (is_gate signal.kind))

-- the signal is a gate, and this one is among its inputs
abbrev pub Reads : List Signal → ℕ → ℕ → Type 0
Reads signals gate read = IsSomeAnd (slice_get signals gate)
    (λ signal. IsTrue (is_gate signal.kind) × Contains signal.fan_in read)

-- from the first signal on, each gate reads the one before, up to the last
abbrev pub Follows : List Signal → ℕ → List ℕ → ℕ → Type 0
Follows signals first [] last = first ≡ last
Follows signals first (gate ∷ gates) last = Reads signals gate first
    × Follows signals gate gates last

-- gates that read one another in a ring: each the one before, and the first the last
abbrev pub IsLoop : List Signal → List ℕ → Type 0
IsLoop signals [] = ⊥
IsLoop signals (first ∷ gates) = (last : ℕ) × Follows signals first gates last
    × Reads signals first last

-- a ring as it is named: by its distinct gates, from the one with the lowest number on
pub record IsNamedLoop (signals : List Signal) (loop : List ℕ) : Type 0 where
  pub ring : IsLoop signals loop
  pub once : AllPairs (λ first second. first ≢ second) loop
  pub lowest : IsSomeAnd (slice_get loop 0) (λ first. All (λ gate. first ≤ gate) loop)

-- the signal that a register is
abbrev pub register_signal : Circuit → ℕ → Option Signal
register_signal circuit register =
    option_and_then (slice_get circuit.signals) (slice_get circuit.registers register)

abbrev pub register_name : Circuit → ℕ → List ℕ
register_name circuit register =
    option_map_or (λ signal. signal.name) (register_signal circuit register) []

-- the signal of this number is a primary input
abbrev pub IsInput : Circuit → ℕ → Type 0
IsInput circuit number = IsSomeAnd (slice_get circuit.signals number)
    (λ signal. IsTrue (is_input signal.kind))

-- a register launches its own signal, and the host each primary input
abbrev pub Launches : Circuit → ℕ → ℕ → Type 0
Launches circuit register number = IsSomeAnd (register_signal circuit register)
    (λ signal. MatchBool (is_host signal.kind) (IsInput circuit number)
    (slice_get circuit.registers register ≡ Some number))

-- a register captures each signal of its fan-in: its data input, and the host each primary output
abbrev pub Captures : Circuit → ℕ → ℕ → Type 0
Captures circuit register number =
    IsSomeAnd (register_signal circuit register) (λ signal. Contains signal.fan_in number)

-- the signals from one that a register launches to one that a register captures
abbrev pub IsPath : Circuit → ℕ → ℕ → List ℕ → Type 0
IsPath circuit from to [] = ⊥
IsPath circuit from to (first ∷ gates) = Launches circuit from first
    × ((last : ℕ) × Follows circuit.signals first gates last × Captures circuit to last)
