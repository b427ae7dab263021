-- What the registers have to spare at a period. Fishburn, "Clock Skew Optimization", 1990. Times
-- are in ticks over a scale.
use Rattle.std.specs.Prelude.{◌≡◌, ◌^◌, ℕ, ℤ, pos, ◌+ℤ◌, ◌-ℤ◌, ◌*ℤ◌, ◌≤ℤ◌, List, length, Option, Some, None, slice_get, nat_abs}
use Rattle.cts_base.specs.declared.fraction.Fraction.{Fraction}
use Rattle.cts_model.specs.Types.{Circuit, Tech, Schedule, Slack}
use Rattle.cts_model.specs.timing.Delays.{least_delay, greatest_delay}
use Rattle.cts_model.specs.netlist.Paths.{IsPath}
use Rattle.cts_model.specs.placement.Points.{IsBelow}
use Rattle.cts_model.specs.timing.Schedules.{arrival_of}

-- how long before the next edge at the one register, less the setup time, what the other launches
-- along the path has settled
abbrev pub setup_spare : Circuit → Tech → (scale : ℕ) (period : ℤ) (arrival : ℕ → ℤ)
    (from to : ℕ) (path : List ℕ) → ℤ
setup_spare circuit tech scale period arrival from to path = (arrival to +ℤ period)
    -ℤ (arrival from +ℤ (pos scale *ℤ (greatest_delay circuit tech path +ℤ tech.setup)))

-- how long after the edge at the one register, and the hold time, the next that the other launches
-- along the path comes
abbrev pub hold_spare : Circuit → Tech → (scale : ℕ) (arrival : ℕ → ℤ)
    (from to : ℕ) (path : List ℕ) → ℤ
hold_spare circuit tech scale arrival from to path =
    (arrival from +ℤ (pos scale *ℤ least_delay circuit tech path))
    -ℤ (arrival to +ℤ (pos scale *ℤ tech.hold))

-- no path that ends at the register spares less, and one spares no more
pub record IsLeastSpare (circuit : Circuit) (spare : (from to : ℕ) (path : List ℕ) → ℤ) (to : ℕ)
    (least : ℤ) : Type 0 where
  pub each : (from : ℕ) (path : List ℕ) → IsPath circuit from to path
      → least ≤ℤ spare from to path
  pub from : ℕ
  pub path : List ℕ
  pub joins : IsPath circuit from to path
  pub shown : spare from to path ≡ least

-- the slack as a fraction, and none exactly where no path ends at the register
abbrev pub IsSlackOf : Circuit → (scale : ℕ) → (spare : (from to : ℕ) (path : List ℕ) → ℤ)
    → (to : ℕ) → Option Fraction → Type 0
IsSlackOf circuit scale spare to None = (from : ℕ) (path : List ℕ) → IsPath circuit from to path
    → ⊥
IsSlackOf circuit scale spare to (Some slack) = (least : ℤ) × IsLeastSpare circuit spare to least
    × ((slack.num *ℤ pos scale) ≡ (least *ℤ slack.den))

-- both slacks of a register
pub record IsSlack (circuit : Circuit) (tech : Tech) (scale : ℕ) (period : ℤ)
    (arrival : ℕ → ℤ) (register : ℕ) (slack : Slack) : Type 0 where
  pub setup : IsSlackOf circuit scale (setup_spare circuit tech scale period arrival) register
      slack.setup
  pub hold : IsSlackOf circuit scale (hold_spare circuit tech scale arrival) register slack.hold

-- the slacks of each register where the clock reaches the registers by the schedule
pub record AreSlacks (circuit : Circuit) (tech : Tech) (period : Fraction) (schedule : Schedule)
    (slacks : List Slack) : Type 0 where
  pub registers : length slacks ≡ length circuit.registers
  pub each : (register : ℕ) (slack : Slack) → slice_get slacks register ≡ Some slack
      → IsSlack circuit tech (nat_abs period.den) period.num (arrival_of schedule.at) register slack

-- a slack is a whole number below 10^20 in size over the period's denominator
abbrev pub IsSmallSlack : (den : ℤ) → Option Fraction → Type 0
IsSmallSlack den None = Unit {0}
IsSmallSlack den (Some slack) = (over : ℤ) × ((slack.num *ℤ den) ≡ (over *ℤ slack.den))
    × IsBelow (10 ^ 20) over

-- and so are both of a register
pub record AreSmallSlacks (den : ℤ) (slack : Slack) : Type 0 where
  pub setup : IsSmallSlack den slack.setup
  pub hold : IsSmallSlack den slack.hold
