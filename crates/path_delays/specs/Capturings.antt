-- The registers that capture what a walk reached.
use Rattle.std.specs.Prelude.{◌≡◌, ◌<◌, ◌+◌, ◌*◌, ◌^◌, ℕ, false, IsTrue, IsSome, List, [], ◌∷◌, length, map, All, AllPairs, Contains, Option, None, slice_index_or}
use Rattle.path_delays.specs.Types.{Circuit}
use Rattle.cts_model.specs.Vocabulary.{Captures, IsPath}
use Rattle.gate_order.specs.GroupParts.{bounds_of, group_of}
use Rattle.path_delays.specs.declared.capturing.Capturing.{Capturing}
use Rattle.path_delays.specs.declared.capturing.Capture.{Capture}
use Rattle.path_delays.specs.declared.capturing.CaptureList.{CaptureList}
use Rattle.path_delays.specs.declared.capturing.Found.TheVariants.{Single, Merged}
use Rattle.path_delays.specs.declared.lanes.LaneSums.{LaneSums}
use Rattle.path_delays.specs.declared.sums.Sums.{Sums}
use Rattle.path_delays.specs.declared.walk.Walk.{Walk}
use Rattle.path_delays.specs.NumberSets.{has_number}
use Rattle.path_delays.specs.WalkParts.{AreMerged, sums_to}
use Rattle.path_delays.specs.Carrying.{AreExtremesIfAny, StandsAt}
use Rattle.path_delays.specs.Captured.{AreCapturedBy, AreCapturersOf, AreCapturedBelow}

-- the signal is one that is captured, and the register among those that capture it
pub record IsCapturer (capturing : Capturing) (signal register : ℕ) : Type 0 where
  pub captured : IsTrue (has_number capturing.captured.words.items signal)
  pub listed : Contains (group_of capturing.capturers signal) register

-- room for the signals and the registers
pub record HasCaptureRoom (capturing : Capturing) : Type 0 where
  pub groups : (signal : ℕ) → IsTrue (has_number capturing.captured.words.items signal)
      → signal + 1 < bounds_of capturing.capturers
  pub found : (signal register : ℕ) → IsCapturer capturing signal register
      → register < 64 * length capturing.found.words.items
  pub reached : length capturing.reached.words.items ≡ length capturing.captured.words.items
  pub small_reached : 64 * length capturing.reached.words.items < 2 ^ 32
  pub small_found : 64 * length capturing.found.words.items < 2 ^ 32

-- as much room as before, for the same registers and signals
pub record IsSameCapturing (old new : Capturing) : Type 0 where
  pub capturers : new.capturers ≡ old.capturers
  pub captured : new.captured ≡ old.captured
  pub reached : length new.reached.words.items ≡ length old.reached.words.items
  pub found : length new.found.words.items ≡ length old.found.words.items

-- the registers are those that capture a signal that the walk reached, and maybe others that
-- capture one, in ascending order
pub record AreGathered (walk : Walk) (old new : Capturing) : Type 0 where
  pub same : IsSameCapturing old new
  pub all : (lane signal register : ℕ) → IsCapturer old signal register
      → IsSome (sums_to walk lane signal) → Contains new.registers.items register
  pub each : (register : ℕ) → Contains new.registers.items register
      → (signal : ℕ) × IsCapturer old signal register
  pub ascending : AllPairs ◌<◌ new.registers.items

-- the signals and registers of a circuit
pub record IsCapturingOf (circuit : Circuit) (capturing : Capturing) : Type 0 where
  pub capturers : AreCapturersOf circuit capturing.capturers
  pub captured : AreCapturedBelow circuit (length circuit.registers)
      capturing.captured.words.items
  pub room : HasCaptureRoom capturing

-- the registers are ones of the circuit, in ascending order, and among them is each that a path
-- leads to from this one
pub record AreAllReached (circuit : Circuit) (from : ℕ) (registers : List ℕ) : Type 0 where
  pub within : All (λ to. to < length circuit.registers) registers
  pub ascending : AllPairs ◌<◌ registers
  pub joined : (to : ℕ) (path : List ℕ) → IsPath circuit from to path → Contains registers to

-- at a place is what a walk found at all that the register captures
pub record IsMergedAt (circuit : Circuit) (walk : Walk) (merged : List LaneSums) (register : ℕ)
    (place : ℕ) : Type 0 where
  pub within : place < length merged
  pub captured : List ℕ
  pub exact : AreCapturedBy circuit register captured
  pub each : AreMerged walk captured (slice_index_or merged place (record { sums = [] }))

-- in a lane these are the least and the greatest of what a walk found at all that the register
-- captures
pub record IsFoundIn (circuit : Circuit) (walk : Walk) (lane register : ℕ) (found : Option Sums)
    : Type 0 where
  pub captured : List ℕ
  pub exact : AreCapturedBy circuit register captured
  pub each : AreExtremesIfAny (StandsAt (sums_to walk lane) (Contains captured)) found

-- what a walk found at what a register of the circuit captures: the single signal is reached, and
-- nothing is found in the lanes that are false
pub record IsCapture (circuit : Circuit) (walk : Walk) (merged : List LaneSums) (capture : Capture)
    : Type 0 where
  pub within : capture.register < length circuit.registers
  pub single : (signal : ℕ) → capture.found ≡ Single signal
      → AreCapturedBy circuit capture.register (signal ∷ [])
      × IsTrue (has_number walk.reach.reached.words.items signal)
  pub several : (place : ℕ) → capture.found ≡ Merged place
      → IsMergedAt circuit walk merged capture.register place
  pub missed : (lane signal : ℕ) → lane < 16 → slice_index_or capture.lanes lane false ≡ false
      → Captures circuit capture.register signal → sums_to walk lane signal ≡ None

-- a list of captures of registers of the circuit
abbrev pub ListsCaptures : Circuit → Walk → CaptureList → Type 0
ListsCaptures circuit walk captures =
    All (IsCapture circuit walk captures.merged.items) captures.list.items

-- the registers of captures
abbrev pub registers_of : List Capture → List ℕ
registers_of captures = map (λ capture. capture.register) captures
