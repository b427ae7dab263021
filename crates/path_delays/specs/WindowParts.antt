-- Windows of signals: how they move after a gate, and how several become one.
use Rattle.std.specs.Prelude.{◌≡◌, ◌<◌, ◌+◌, ◌*◌, ◌^◌, ◌⊎◌, ℕ, pos, ◌+ℤ◌, ◌*ℤ◌, List, length, take, Contains, Option, Some, None, nat_abs, slice_get, slice_index_or}
use Rattle.std.specs.Option.{option_map}
use Rattle.std.specs.Int.{int_min, int_max}
use Rattle.path_delays.specs.Types.{Circuit, Tech, Schedule}
use Rattle.cts_model.specs.Vocabulary.{Captures, arrival_of}
use Rattle.path_delays.specs.declared.sums.Sums.{Sums}
use Rattle.path_delays.specs.declared.window.Window.{Window}
use Rattle.path_delays.specs.Carrying.{AreCarried, AreExtremesIfAny, StandsAt, StartsOf, gate_sums_at}
use Rattle.path_delays.specs.Windows.{IsWindowBelow}

-- the window after a delay
abbrev pub window_after : (scale : ℕ) → Sums → Window → Window
window_after scale delay window = record {
  earliest = window.earliest +ℤ (pos scale *ℤ delay.least);
  latest = window.latest +ℤ (pos scale *ℤ delay.greatest);
}

-- from the earlier to the later of both
abbrev pub merged_windows : Window → Window → Window
merged_windows first second = record {
  earliest = int_min first.earliest second.earliest;
  latest = int_max first.latest second.latest;
}

-- of two windows, of which each may be missing
abbrev pub either_window : Option Window → Option Window → Option Window
either_window None found = found
either_window (Some known) None = Some known
either_window (Some known) (Some found) = Some (merged_windows known found)

-- the window at a signal
abbrev pub window_at : List (Option Window) → ℕ → Option Window
window_at windows signal = slice_index_or windows signal None

-- the two times of a window as sums
abbrev pub sums_of : Window → Sums
sums_of window = record { least = window.earliest; greatest = window.latest }

-- and what so stands at a signal
abbrev pub sums_in : List (Option Window) → ℕ → Option Sums
sums_in windows signal = option_map sums_of (window_at windows signal)

-- delays over a scale
abbrev pub scaled_sums : (scale : ℕ) → Sums → Sums
scaled_sums scale delay = record {
  least = pos scale *ℤ delay.least;
  greatest = pos scale *ℤ delay.greatest;
}

abbrev pub scaled_delay : Circuit → Tech → Schedule → ℕ → Sums
scaled_delay circuit tech schedule gate =
    scaled_sums (nat_abs schedule.den) (gate_sums_at circuit tech gate)

-- the least and the greatest of what a gate reads, after the gate's delay
pub record IsGateWindow (windows : List (Option Window)) (reads : List ℕ) (scale : ℕ) (delay : Sums)
    (found : Option Window) : Type 0 where
  pub read : Option Window
  pub extremes : AreExtremesIfAny (StandsAt (sums_in windows) (Contains reads))
      (option_map sums_of read)
  pub suffix : found ≡ option_map (window_after scale delay) read

-- at each register below a number the least and the greatest of what it captures
pub record AreCaptures (circuit : Circuit) (windows : List (Option Window)) (below : ℕ)
    (captured : List (Option Window)) : Type 0 where
  pub registers : length captured ≡ below
  pub each : (register : ℕ) (window : Option Window) → slice_get captured register ≡ Some window
      → AreExtremesIfAny (StandsAt (sums_in windows) (Captures circuit register))
      (option_map sums_of window)

-- the window at what a register launches
abbrev pub start_window : Tech → Schedule → ℕ → Window
start_window tech schedule from = record {
  earliest = arrival_of schedule.at from +ℤ (pos (nat_abs schedule.den) *ℤ tech.least);
  latest = arrival_of schedule.at from +ℤ (pos (nat_abs schedule.den) *ℤ tech.greatest);
}

-- no window is beyond, when so many gates are passed
abbrev pub window_limit : (passed : ℕ) → ℕ
window_limit passed = 10 ^ 19 + (passed + 1) * 10 ^ 10

-- the windows at all signals are
abbrev pub AreBelow : (bound : ℕ) → List (Option Window) → Type 0
AreBelow bound windows = (signal : ℕ) (window : Window) → window_at windows signal ≡ Some window
    → IsWindowBelow bound window

-- each register below a number starts at its arrival, and its own delay after it
abbrev pub StartsBelow : Circuit → Tech → Schedule → (below : ℕ) → ℕ → Sums → Type 0
StartsBelow circuit tech schedule below =
    StartsOf circuit (λ from. from < below) (λ from. sums_of (start_window tech schedule from))

-- and the next one at these signals
abbrev pub BegunTo : Circuit → Tech → Schedule → (from : ℕ) → (launched : List ℕ) → ℕ → Sums
    → Type 0
BegunTo circuit tech schedule from launched signal sums =
    StartsBelow circuit tech schedule from signal sums
    ⊎ (Contains launched signal × (sums ≡ sums_of (start_window tech schedule from)))

-- windows are carried from all registers, as far as these have begun, with so many gates passed
pub record AreSwept (circuit : Circuit) (tech : Tech) (schedule : Schedule) (passed : ℕ)
    (Begun : ℕ → Sums → Type 0) (Handed : ℕ → ℕ → Type 0)
    (windows : List (Option Window)) : Type 0 where
  pub covers : length windows ≡ length circuit.signals
  pub carried : AreCarried circuit.signals (scaled_delay circuit tech schedule)
      (StartsBelow circuit tech schedule (length circuit.registers)) Begun Handed
      (sums_in windows)
  pub small : AreBelow (window_limit passed) windows

-- nothing is handed on yet
abbrev pub NoneHanded : ℕ → ℕ → Type 0
NoneHanded read gate = ⊥

-- to these gates all that they read has handed what comes there
abbrev pub HandedToPassed : (order : List ℕ) → (passed : ℕ) → ℕ → ℕ → Type 0
HandedToPassed order passed read gate = Contains (take passed order) gate

-- the windows stand at what the registers below a number launch
abbrev pub AreLaunched : Circuit → Tech → Schedule → (below : ℕ) → List (Option Window) → Type 0
AreLaunched circuit tech schedule below =
    AreSwept circuit tech schedule 0 (StartsBelow circuit tech schedule below) NoneHanded

-- and so many gates of the order are passed
abbrev pub ArePassed : Circuit → Tech → Schedule → (order : List ℕ) → (passed : ℕ)
    → List (Option Window) → Type 0
ArePassed circuit tech schedule order passed = AreSwept circuit tech schedule passed
    (StartsBelow circuit tech schedule (length circuit.registers)) (HandedToPassed order passed)
