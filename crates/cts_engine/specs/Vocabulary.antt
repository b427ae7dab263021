-- The words that the contracts of this crate have in common.
pub use Rattle.critical_cycle.specs.CyclePlaces.{AreWithin, constraints_at}
pub use Rattle.cts_base.specs.declared.fraction.Fraction.{Fraction}
pub use Rattle.cts_model.specs.Vocabulary.{has_host, HasNoHost, AreUsedKinds, GivesUsedKinds, AreTreeSinks, IsTopology, ArePathsOf, IsConstraintOf, JoinsMoreThan, IsLoop, IsMarginPeriod, HasNoPeriod, IsPointBelow, IsUvBelow, IsUvMultipleOf, rotated, grid_of, on_grid, steps_of_micro, sinks_in, embedding_of, IsSmallWire, IsZeroSkew, HasSmallDelays}
pub use Rattle.delay_tables.specs.Refusals.{RefusesTable}
pub use Rattle.gate_order.specs.LevelParts.{IsLevelsOf}
pub use Rattle.outcomes.specs.CircuitMargins.{HasNoPath, IsMarginOutcome, IsSmallOutcome, IsUnboundedOutcome}
pub use Rattle.outcomes.specs.PeriodOutcomes.{HasSmallZero, IsPeriodOutcome}
pub use Rattle.outcomes.specs.ScheduleOutcomes.{HasSmallTimes, IsScheduleOutcome, period_outcome}
pub use Rattle.outcomes.specs.Syntheses.{IsReportWith}
pub use Rattle.outcomes.specs.SynthesisOutcomes.{IsOutcome, IsOutcomeWith, IsShownOutcome}
pub use Rattle.path_delays.specs.JoinedPairs.{ShowsTooMany, ArePairs}
pub use Rattle.place_down.specs.Trees.{IsTreeSource}
pub use Rattle.cts_engine.specs.Accepted.{IsHostedBy, TellsDelays, TellBoth, TellAll, IsCircuitRefusal, IsProblemRefusal}
pub use Rattle.cts_engine.specs.ClockTrees.{IsClockTree, IsMadeTree}
pub use Rattle.cts_engine.specs.CyclePaths.{IsShownBy}
pub use Rattle.cts_engine.specs.RegisterTimes.{IsTiming, HasLeastPeriod, AreTimes}
pub use Rattle.cts_engine.specs.SessionOutcomes.{ForbidsFromLowest, HasSmallGrid, IsGrid, IsNeverSession, IsSessionOutcome, StandsAt}
pub use Rattle.cts_engine.specs.SinkOutcomes.{AreTimedSinks, IsSinkOutcome, StartsLowest}
pub use Rattle.cts_engine.specs.TreeParts.{AreDrawn, CanDraw, CanDrawEdge, IsEdgeDrawn}
pub use Rattle.cts_engine.specs.Types.{Problem, Point, Schedule, Tech, Merge}
