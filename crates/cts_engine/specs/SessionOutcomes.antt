-- The outcome of a problem as a session: the tree over its registers with the least schedule at the
-- least period, or what forbids every period. Fishburn, "Clock Skew Optimization", 1990; Boese and
-- Kahng 1992; Chao and others 1992.
use Rattle.std.specs.Prelude.{◌≡◌, ◌^◌, ℤ, List, length}
use Rattle.cts_base.specs.declared.fraction.Fraction.{Fraction}
use Rattle.cts_engine.specs.Types.{Point, Problem, Schedule, Tech, Merge}
use Rattle.cts_model.specs.Vocabulary.{IsGreedy, IsForbidding, IsLeastFraction, rotated, grid_of, on_grid, sinks_of, IsLeastSchedule}
use Rattle.cts_model.specs.table.Tables.{IsWithin}
use Rattle.critical_cycle.specs.CyclePlaces.{IsFromLowest}
use Rattle.move_session.specs.Sessions.{SessionState, StandsFor}
use Rattle.cts_engine.specs.declared.session.SessionOutcome.{SessionOutcome}
use Rattle.cts_engine.specs.declared.session.SessionOutcome.TheVariants.{Found, Never}

-- the session stands for the registers with the offsets of the least schedule at the least period,
-- with their greedy topology and from the problem's source, on the grid of the period; each merge
-- was made once
pub record IsSessionOf (problem : Problem) (session : SessionState) (grid : ℤ) : Type 0 where
  pub period : Fraction
  pub least_period : IsLeastFraction problem.circuit problem.tech period
  pub schedule : Schedule
  pub least_schedule : IsLeastSchedule problem.circuit problem.tech period schedule
  pub stands : StandsFor
      (sinks_of period problem.tech problem.places.registers schedule.at) session.merges
      (rotated (on_grid period problem.tech problem.places.source)) session
  pub greedy : IsGreedy session.sinks session.merges
  pub renewals : session.renewals ≡ length session.merges
  pub grid_is : grid ≡ grid_of period problem.tech

-- the session stands for the registers at these places, with the offsets of a schedule at a period,
-- with these merges and from the problem's source, on the grid of the period
pub record StandsAt (problem : Problem) (period : Fraction) (schedule : Schedule)
    (merges : List Merge) (grid : ℤ) (places : List Point) (session : SessionState)
    : Type 0 where
  pub stands : StandsFor (sinks_of period problem.tech places schedule.at) merges
      (rotated (on_grid period problem.tech problem.places.source)) session
  pub grid_is : grid ≡ grid_of period problem.tech
  pub as_many : length places ≡ length schedule.at

-- so many grid steps has a length unit at some period with some delays
pub record IsGrid (grid : ℤ) : Type 0 where
  pub period : Fraction
  pub tech : Tech
  pub is : grid ≡ grid_of period tech
  pub within : IsWithin 1 (10 ^ 17) grid

-- such a session, or a cycle of the circuit that forbids every period
abbrev pub IsSessionOutcome : Problem → SessionOutcome → Type 0
IsSessionOutcome problem (Found session grid) = IsSessionOf problem session grid
IsSessionOutcome problem (Never cycle) = IsForbidding problem.circuit problem.tech cycle

-- a length unit has some grid steps, and so few that lengths can be spelled
abbrev pub HasSmallGrid : SessionOutcome → Type 0
HasSmallGrid (Found session grid) = IsWithin 1 (10 ^ 17) grid
HasSmallGrid (Never cycle) = Unit {0}

-- the outcome is that no period will do
abbrev pub IsNeverSession : SessionOutcome → Type 0
IsNeverSession (Found session grid) = ⊥
IsNeverSession (Never cycle) = Unit {0}

-- the cycle that is shown, if any, begins at its lowest register
abbrev pub ForbidsFromLowest : SessionOutcome → Type 0
ForbidsFromLowest (Found session grid) = Unit {0}
ForbidsFromLowest (Never cycle) = IsFromLowest cycle
