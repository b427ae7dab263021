-- When what registers launch comes to a register, over all paths that end there. Fishburn, "Clock
-- Skew Optimization", 1990. Times are in ticks over a scale.
use Rattle.std.specs.Prelude.{◌≡◌, ◌≤ℤ◌, ◌*◌, ◌^◌, ℕ, ℤ, pos, ◌+ℤ◌, ◌*ℤ◌, List, length, All, Option, MatchOption, Some, slice_get, nat_abs}
use Rattle.std.specs.Option.{IfSome}
use Rattle.path_delays.specs.Types.{Circuit, Tech, Schedule}
use Rattle.cts_model.specs.Vocabulary.{least_delay, greatest_delay, IsPath, IsBelow, arrival_of}
use Rattle.cts_model.specs.table.Tables.{IsWithin}
use Rattle.path_delays.specs.declared.window.Window.{Window}

-- when what the register launches comes along a path, at its least and at its greatest delay
abbrev pub window_along : Circuit → Tech → (scale : ℕ) (arrival : ℕ → ℤ) (from : ℕ)
    (path : List ℕ) → Window
window_along circuit tech scale arrival from path = record {
  earliest = arrival from +ℤ (pos scale *ℤ least_delay circuit tech path);
  latest = arrival from +ℤ (pos scale *ℤ greatest_delay circuit tech path);
}

-- the window lies in the other
pub record IsInside (outer window : Window) : Type 0 where
  pub earliest : outer.earliest ≤ℤ window.earliest
  pub latest : window.latest ≤ℤ outer.latest

-- each of these windows lies in it; one is as early, and one as late
pub record IsHull (Comes : Window → Type 0) (hull : Window) : Type 0 where
  pub each : (window : Window) → Comes window → IsInside hull window
  pub first : Window
  pub first_comes : Comes first
  pub earliest : first.earliest ≡ hull.earliest
  pub last : Window
  pub last_comes : Comes last
  pub latest : last.latest ≡ hull.latest

-- nothing exactly where there is none of these windows
abbrev pub IsHullIfAny : (Window → Type 0) → Option Window → Type 0
IsHullIfAny Comes hull = MatchOption hull ((window : Window) → Comes window → ⊥) (IsHull Comes)

-- some path that ends at the register has this window
abbrev pub ComesTo : Circuit → Tech → (scale : ℕ) (arrival : ℕ → ℤ) (to : ℕ) → Window → Type 0
ComesTo circuit tech scale arrival to window = (from : ℕ) × (path : List ℕ)
    × IsPath circuit from to path × (window_along circuit tech scale arrival from path ≡ window)

-- both times are below the bound in size
pub record IsWindowBelow (bound : ℕ) (window : Window) : Type 0 where
  pub earliest : IsBelow bound window.earliest
  pub latest : IsBelow bound window.latest

-- the arrivals are over a small scale, and below 10^19 in size
pub record IsSmallSchedule (schedule : Schedule) : Type 0 where
  pub den : IsWithin 1 4097 schedule.den
  pub small : All (IsBelow (10 ^ 19)) schedule.at

-- for each register when what is launched by the schedule comes there
pub record AreWindows (circuit : Circuit) (tech : Tech) (schedule : Schedule)
    (windows : List (Option Window)) : Type 0 where
  pub registers : length windows ≡ length circuit.registers
  pub each : (register : ℕ) (window : Option Window) → slice_get windows register ≡ Some window
      → IsHullIfAny (ComesTo circuit tech (nat_abs schedule.den) (arrival_of schedule.at) register)
      window
  pub small : All (λ window. IfSome window (IsWindowBelow (2 * 10 ^ 19))) windows
