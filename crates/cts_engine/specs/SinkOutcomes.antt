-- What a problem asks of a tree over its registers: the sinks whose offsets are the least schedule
-- at the least period, or what forbids every period. Fishburn, "Clock Skew Optimization", 1990.
use Rattle.std.specs.Prelude.{◌≡◌, List, length}
use Rattle.cts_engine.specs.Types.{Constraint, Problem}
use Rattle.cts_model.specs.Vocabulary.{IsForbidding, sinks_of, AreTreeSinks}
use Rattle.critical_cycle.specs.CyclePlaces.{IsFromLowest}
use Rattle.cts_engine.specs.declared.sink_times.SinkOutcome.{SinkOutcome}
use Rattle.cts_engine.specs.declared.sink_times.SinkOutcome.TheVariants.{Found, Never}
use Rattle.cts_engine.specs.declared.sink_times.TimedSinks.{TimedSinks}
use Rattle.outcomes.specs.ShownCycles.{ShowsFromLowest}
use Rattle.cts_engine.specs.RegisterTimes.{AreTimes, HasLeastPeriod}

-- the registers as sinks with the offsets of the least schedule at the least period
pub record AreTimedSinks (problem : Problem) (timed : TimedSinks) : Type 0 where
  pub constraints : List Constraint
  pub least : HasLeastPeriod problem.circuit problem.tech constraints timed.period timed.shown
  pub at_times : AreTimes problem.circuit problem.tech timed.period timed.shown timed.times
  pub sinks_are : timed.sinks ≡ sinks_of timed.period problem.tech problem.places.registers
      timed.times.schedule.at
  pub all : length timed.sinks ≡ length problem.circuit.registers
  pub of_tree : AreTreeSinks timed.sinks

-- such sinks, or a cycle of the circuit that forbids every period
abbrev pub IsSinkOutcome : Problem → SinkOutcome → Type 0
IsSinkOutcome problem (Found timed) = AreTimedSinks problem timed
IsSinkOutcome problem (Never cycle) = IsForbidding problem.circuit problem.tech cycle

-- the cycle that is shown, if any, begins at its lowest register
abbrev pub StartsLowest : SinkOutcome → Type 0
StartsLowest (Found timed) = ShowsFromLowest timed.shown
StartsLowest (Never cycle) = IsFromLowest cycle
