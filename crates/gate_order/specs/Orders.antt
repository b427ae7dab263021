-- Orders of a netlist's gates in which each comes after the gates that it reads.
use Rattle.std.specs.Prelude.{◌≡◌, ◌≢◌, ◌<◌, ℕ, List, All, AllPairs, Contains, Some, slice_get, slice_index, length, take}
use Rattle.cts_model.specs.declared.signal.Signal.{Signal}
use Rattle.cts_model.specs.Vocabulary.{IsGate, Reads}

-- each gate once, each after the gates that it reads
pub record IsTopologicalOrder (signals : List Signal) (order : List ℕ) : Type 0 where
  pub gates : All (IsGate signals) order
  pub all : (gate : ℕ) → IsGate signals gate → Contains order gate
  pub once : AllPairs (λ first second. first ≢ second) order
  pub after : (place gate read : ℕ) → slice_get order place ≡ Some gate
      → Reads signals gate read → IsGate signals read → Contains (take place order) read

-- for each signal a number that isn't 0 where it waits: a gate that waits reads one that waits
pub record AllWait (signals : List Signal) (waiting : List ℕ) : Type 0 where
  pub covers : length waiting ≡ length signals
  pub each : (gate : ℕ) → 0 < slice_index waiting gate
      → (read : ℕ) × Reads signals gate read × (0 < slice_index waiting read)
