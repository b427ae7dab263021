-- Gates in the order in which they stop waiting for others.
use Rattle.std.specs.Prelude.{◌≡◌, ◌≢◌, ◌<◌, ◌≤◌, ◌+◌, ◌-◌, ◌==◌, nat_lt, ℕ, List, [], ◌∷◌, ◌++◌, length, All, AllPairs, Contains, if◌then◌else◌, slice_index, slice_set, count_by}
use Rattle.cts_model.specs.declared.signal.Signal.{Signal}
use Rattle.cts_model.specs.Vocabulary.{IsGate}
use Rattle.gate_order.specs.Orders.{IsTopologicalOrder, AllWait}

-- how many of these numbers aren't 0
abbrev pub waiting_count : List ℕ → ℕ
waiting_count waiting = count_by (λ number. nat_lt 0 number) waiting

-- how often a gate stands among those that read another
abbrev pub times_in : ℕ → List ℕ → ℕ
times_in gate readers = count_by (λ reader. reader == gate) readers

-- a gate waits for one gate less, and comes last in the order where it waits for none now
pub record IsReleased (gate : ℕ) (waiting order later_waiting later_order : List ℕ) : Type 0 where
  pub lowered : later_waiting ≡ slice_set waiting gate (slice_index waiting gate - 1)
  pub put : later_order ≡ order ++ (if slice_index waiting gate == 1 then gate ∷ [] else [])

-- no reader stands there more often than it waits
pub record CanRelease (readers waiting : List ℕ) : Type 0 where
  pub each : (gate : ℕ) → times_in gate readers ≤ slice_index waiting gate

-- each reader waits for so many gates less as it stands there, and those that wait for none now
-- come last in the order, each once
pub record AreReleased (readers waiting order later_waiting later_order : List ℕ) : Type 0 where
  pub covers : length later_waiting ≡ length waiting
  pub lowered : (gate : ℕ)
      → slice_index later_waiting gate + times_in gate readers ≡ slice_index waiting gate
  pub added : List ℕ
  pub put : later_order ≡ order ++ added
  pub waited : All (λ gate. 0 < slice_index waiting gate) added
  pub idle : All (λ gate. slice_index later_waiting gate ≡ 0) added
  pub all : (gate : ℕ) → 0 < slice_index waiting gate
      → slice_index later_waiting gate ≡ 0 → Contains added gate
  pub once : AllPairs (λ first second. first ≢ second) added
  pub steady : length later_order + waiting_count later_waiting
      ≡ length order + waiting_count waiting

-- the gates below a number that wait for none, each once
pub record AreIdleGates (signals : List Signal) (waiting : List ℕ) (below : ℕ)
    (order : List ℕ) : Type 0 where
  pub lower : All (λ gate. gate < below) order
  pub gates : All (IsGate signals) order
  pub idle : All (λ gate. slice_index waiting gate ≡ 0) order
  pub all : (gate : ℕ) → gate < below → IsGate signals gate
      → slice_index waiting gate ≡ 0 → Contains order gate
  pub once : AllPairs (λ first second. first ≢ second) order

-- where gates still wait, they wait for one another; where none does, the order is complete
pub record IsSorted (signals : List Signal) (waiting order : List ℕ) : Type 0 where
  pub wait : AllWait signals waiting
  pub complete : ((gate : ℕ) → slice_index waiting gate ≡ 0) → IsTopologicalOrder signals order
