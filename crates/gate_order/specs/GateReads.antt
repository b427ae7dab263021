-- Which gates read which: pairs of a gate that is read and of one that reads it.
use Rattle.std.specs.Prelude.{◌<◌, ◌≤◌, ℕ, Bool, false, List, [], length, take, All, Contains, Option, Some, None, if◌then◌else◌, slice_get}
use Rattle.std.specs.List.{filter_map, sum_by}
use Rattle.std.specs.Option.{option_map_or}
use Rattle.cts_model.specs.declared.signal.Signal.{Signal}
use Rattle.cts_model.specs.Vocabulary.{is_gate, gate_inputs, IsGate, Reads}

-- whether the signal of this number is a gate
abbrev pub is_gate_at : List Signal → ℕ → Bool
is_gate_at signals number =
    option_map_or (λ signal. is_gate signal.kind) (slice_get signals number) false

-- the pair of an input and the gate that reads it, if the input is a gate
abbrev pub read_of : List Signal → ℕ → ℕ → Option (ℕ × ℕ)
read_of signals gate input = if is_gate_at signals input then Some (input, gate) else None

-- the pairs of a gate with those of these inputs that are gates
abbrev pub reads_among : List Signal → ℕ → List ℕ → List (ℕ × ℕ)
reads_among signals gate inputs = filter_map (read_of signals gate) inputs

-- the pairs of a signal, if it is a gate
abbrev pub reads_by : List Signal → Signal → ℕ → List (ℕ × ℕ)
reads_by signals signal number =
    if is_gate signal.kind then reads_among signals number signal.fan_in else []

-- a gate that is read, and one that reads it
abbrev pub IsRead : List Signal → ℕ × ℕ → Type 0
IsRead signals pair = Reads signals pair.1 pair.0 × IsGate signals pair.0

-- the pairs of all gates below a number: each input as often as it stands in its gate's list
pub record AreReads (signals : List Signal) (below : ℕ) (pairs : List (ℕ × ℕ)) : Type 0 where
  pub each : All (IsRead signals) pairs
  pub all : (gate read : ℕ) → gate < below → Reads signals gate read
      → IsGate signals read → Contains pairs (read, gate)
  pub few : length pairs ≤ sum_by gate_inputs (take below signals)
