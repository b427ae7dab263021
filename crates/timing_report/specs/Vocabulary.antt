-- The words that the contracts of this crate have in common.
pub use Rattle.std.specs.Option.{IfSome}
pub use Rattle.cts_model.specs.Vocabulary.{IsZeroSkew, ListsPairs, IsSmallPair, HasSmallDelays, IsBelow, IsSmallPeriod, AreSlacks, AreSmallSlacks, IsSmallSlack}
pub use Rattle.cts_model.specs.declared.circuit.Circuit.{Circuit}
pub use Rattle.cts_model.specs.declared.timing.PairDelay.{PairDelay}
pub use Rattle.cts_model.specs.table.Tables.{IsWithin}
pub use Rattle.gate_order.specs.LevelParts.{IsLevelsOf}
pub use Rattle.path_delays.specs.Windows.{IsWindowBelow}
pub use Rattle.timing_report.specs.ListedPairs.{IsZeroSkewOf}
pub use Rattle.timing_report.specs.SpareTicks.{IsSlackAt, IsTicks}
