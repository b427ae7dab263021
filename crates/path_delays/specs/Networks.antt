-- What walks over a circuit go by: the readers of each signal, the order of the gates and their
-- delays.
use Rattle.std.specs.Prelude.{◌≡◌, ◌≢◌, ◌<◌, ◌≤◌, ◌+◌, ◌-◌, ◌↔◌, ℕ, pos, List, [], length, map, take, All, AllPairs, Contains, Some, if◌then◌else◌, slice_get, slice_index}
use Rattle.std.specs.List.{sum_by}
use Rattle.path_delays.specs.Types.{Signal, Circuit, Tech}
use Rattle.cts_model.specs.Vocabulary.{is_gate, gate_inputs, Captures, IsGate, IsInput, Reads, least_gate_delay, greatest_gate_delay}
use Rattle.gate_order.specs.declared.groups.Groups.{Groups}
use Rattle.gate_order.specs.GroupParts.{bounds_of, group_of}
use Rattle.path_delays.specs.declared.sums.Sums.{Sums}
use Rattle.path_delays.specs.declared.network.Network.{Network}
use Rattle.path_delays.specs.Handing.{rank_at}

-- the pairs of a signal that is read and a gate that reads it, of all gates below a number
pub record AreAllReads (signals : List Signal) (below : ℕ) (pairs : List (ℕ × ℕ)) : Type 0 where
  pub each : All (λ pair. Reads signals pair.1 pair.0) pairs
  pub all : (gate read : ℕ) → gate < below → Reads signals gate read
      → Contains pairs (read, gate)
  pub few : length pairs ≤ sum_by gate_inputs (take below signals)

-- the pairs of one signal, if it is a gate
abbrev pub all_reads_by : Signal → ℕ → List (ℕ × ℕ)
all_reads_by signal number =
    if is_gate signal.kind then map (λ input. (input, number)) signal.fan_in else []

-- the readers of each signal
pub record AreReaders (signals : List Signal) (readers : Groups) : Type 0 where
  pub long : bounds_of readers ≡ length signals + 1
  pub each : (read gate : ℕ) → read < length signals
      → Contains (group_of readers read) gate → Reads signals gate read
  pub all : (read gate : ℕ) → Reads signals gate read → Contains (group_of readers read) gate

-- the number stands in the list at this place, counted from 1
pub record HasPlaceInOrder (order : List ℕ) (number place : ℕ) : Type 0 where
  pub counted : 1 ≤ place
  pub here : slice_get order (place - 1) ≡ Some number

-- a gate's rank is its place in the order, counted from 1: above the rank of all that it reads.
-- What is no gate has the rank 0
pub record AreRanks (signals : List Signal) (order ranks : List ℕ) : Type 0 where
  pub covers : length ranks ≡ length signals
  pub gates : (gate : ℕ) → IsGate signals gate → HasPlaceInOrder order gate (slice_index ranks gate)
  pub others : (number : ℕ) → 0 < slice_index ranks number → IsGate signals number
  pub rising : (gate read : ℕ) → Reads signals gate read
      → slice_index ranks read < slice_index ranks gate

-- a gate's least and greatest delay; what is no gate has none
abbrev pub gate_sums : Tech → Signal → Sums
gate_sums tech signal = if is_gate signal.kind
    then (record {
      least = least_gate_delay tech (Some signal);
      greatest = greatest_gate_delay tech (Some signal);
    })
    else (record { least = pos 0; greatest = pos 0 })

-- these are the primary inputs
abbrev pub AreInputs : Circuit → List ℕ → Type 0
AreInputs circuit inputs = (signal : ℕ) → Contains inputs signal ↔ IsInput circuit signal

-- these are the primary inputs below a number
abbrev pub AreInputsBelow : Circuit → (below : ℕ) → List ℕ → Type 0
AreInputsBelow circuit below inputs =
    (signal : ℕ) → Contains inputs signal ↔ ((signal < below) × IsInput circuit signal)

-- no signal that the register captures has a higher rank
abbrev pub AreCapturedUpTo : Circuit → Network → (register top : ℕ) → Type 0
AreCapturedUpTo circuit network register top =
    (signal : ℕ) → Captures circuit register signal → rank_at network signal ≤ top

-- the readers, the ranks, the delays and the inputs of a circuit
pub record IsNetworkOf (circuit : Circuit) (tech : Tech) (network : Network) : Type 0 where
  pub readers : AreReaders circuit.signals network.readers
  pub ranks : AreRanks circuit.signals network.order.items network.ranks.items
  pub once : AllPairs (λ first second. first ≢ second) network.order.items
  pub delays : network.delays.items ≡ map (gate_sums tech) circuit.signals
  pub inputs : AreInputs circuit network.inputs.items
