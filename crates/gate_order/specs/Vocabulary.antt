-- The words that the contracts of this crate have in common.
pub use Rattle.cts_model.specs.Vocabulary.{IsNamedLoop, Reads, IsLoop}
pub use Rattle.gate_order.specs.GateReads.{is_gate_at}
pub use Rattle.gate_order.specs.LevelParts.{IsLevelsOf}
pub use Rattle.gate_order.specs.Loops.{ShowsLoop}
pub use Rattle.gate_order.specs.Orders.{AllWait, IsTopologicalOrder}
pub use Rattle.gate_order.specs.Sorted.{AreIdleGates, AreReleased, CanRelease, IsReleased, IsSorted}
