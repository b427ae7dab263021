-- The least period of a circuit and the times of its registers at it. Fishburn, "Clock Skew
-- Optimization", 1990.
use Rattle.std.specs.Prelude.{◌≡◌, ◌≤◌, ℕ, ℤ, List, length}
use Rattle.cts_base.specs.declared.fraction.Fraction.{Fraction}
use Rattle.cts_engine.specs.Types.{Circuit, Constraint, PeriodShow, Tech}
use Rattle.cts_model.specs.Vocabulary.{ArePathsOf, AreSmallConstraints, IsConstraintOf, EachLead, depth_of, lead_at, IsForbidding, IsLeastFraction, IsPeriodShow, IsLeastSchedule, IsSmallPeriod, arrival_of, AreSlacks}
use Rattle.cts_model.specs.table.Tables.{IsWithin}
use Rattle.critical_cycle.specs.CyclePlaces.{IsFromLowest}
use Rattle.outcomes.specs.ShownCycles.{ShowsFromLowest}
use Rattle.cts_engine.specs.PairConstraints.{AreConstraintsOf, HasSmallPairs}
use Rattle.cts_engine.specs.declared.period.Timing.{Timing}
use Rattle.cts_engine.specs.declared.period.Timing.TheVariants.{Found, Never}
use Rattle.cts_engine.specs.declared.times.Times.{Times}

-- the constraints are the circuit's, and the period is its least, as shown
pub record HasLeastPeriod (circuit : Circuit) (tech : Tech) (constraints : List Constraint)
    (period : Fraction) (shown : PeriodShow) : Type 0 where
  pub constraints_are : AreConstraintsOf circuit tech constraints
  pub small : AreSmallConstraints (length circuit.registers) constraints
  pub delays : HasSmallPairs circuit tech
  pub least : IsLeastFraction circuit tech period
  pub is_shown : IsPeriodShow circuit tech period shown
  pub range : IsSmallPeriod period

-- the least period of the circuit's constraints, or a cycle of it that forbids every period; what
-- is shown begins at its lowest register
abbrev pub IsTiming : Circuit → Tech → Timing → Type 0
IsTiming circuit tech (Found period shown constraints) =
    HasLeastPeriod circuit tech constraints period shown × ShowsFromLowest shown
IsTiming circuit tech (Never cycle) = IsForbidding circuit tech cycle × IsFromLowest cycle

-- no arrival is above 1,200,000,000,000,000,000 ticks over the denominator
abbrev pub AreTreeArrivals : (at : List ℤ) → Type 0
AreTreeArrivals at = (register : ℕ) → IsWithin 0 1200000000000000000 (arrival_of at register)

-- the least schedule, what it spares, and what shows it and the period
pub record AreTimes (circuit : Circuit) (tech : Tech) (period : Fraction) (shown : PeriodShow)
    (times : Times) : Type 0 where
  pub paths : ArePathsOf circuit tech shown times.paths
  pub schedule : IsLeastSchedule circuit tech period times.schedule
  pub slacks : AreSlacks circuit tech period times.schedule times.slacks
  pub leads : EachLead (IsConstraintOf circuit tech) period times.schedule.at times.leads
  pub all_leads : length times.leads ≡ length circuit.registers
  pub low_leads : (register : ℕ)
      → depth_of (lead_at times.leads register) ≤ length circuit.registers
  pub arrivals : AreTreeArrivals times.schedule.at
