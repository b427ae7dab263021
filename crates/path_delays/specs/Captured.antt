-- Which registers capture each signal.
use Rattle.std.specs.Prelude.{◌≡◌, ◌<◌, ◌≤◌, ◌+◌, ◌*◌, ◌↔◌, ℕ, IsTrue, List, length, All, Contains}
use Rattle.path_delays.specs.Types.{Circuit}
use Rattle.cts_model.specs.Vocabulary.{Captures}
use Rattle.gate_order.specs.declared.groups.Groups.{Groups}
use Rattle.gate_order.specs.GroupParts.{bounds_of, group_of}
use Rattle.path_delays.specs.NumberSets.{has_number}

-- the register captures these signals and no others
abbrev pub AreCapturedBy : Circuit → ℕ → List ℕ → Type 0
AreCapturedBy circuit register captured =
    (signal : ℕ) → Contains captured signal ↔ Captures circuit register signal

-- the pairs of a signal and a register that captures it, of all registers below a number
pub record AreAllCaptures (circuit : Circuit) (below : ℕ) (pairs : List (ℕ × ℕ)) : Type 0 where
  pub signals : All (λ pair. pair.0 < length circuit.signals) pairs
  pub each : All (λ pair. Captures circuit pair.1 pair.0) pairs
  pub all : (register signal : ℕ) → register < below → Captures circuit register signal
      → Contains pairs (signal, register)
  -- a register captures one signal, and the host at most each signal
  pub few : length pairs ≤ below * 65537

-- the registers that capture each signal
pub record AreCapturersOf (circuit : Circuit) (capturers : Groups) : Type 0 where
  pub long : bounds_of capturers ≡ length circuit.signals + 1
  pub each : (signal register : ℕ) → signal < length circuit.signals
      → Contains (group_of capturers signal) register → Captures circuit register signal
  pub all : (signal register : ℕ) → Captures circuit register signal
      → Contains (group_of capturers signal) register

-- the signals that the registers below a number capture, as a set
pub record AreCapturedBelow (circuit : Circuit) (below : ℕ) (words : List ℕ) : Type 0 where
  pub room : length circuit.signals < 64 * length words
  pub small : 64 * length words ≤ length circuit.signals + 64
  pub each : (signal : ℕ) → IsTrue (has_number words signal) → signal < length circuit.signals
  pub all : (register signal : ℕ) → register < below → Captures circuit register signal
      → IsTrue (has_number words signal)
