-- The types of the model that this crate speaks of.
pub use Rattle.cts_model.specs.declared.circuit.Circuit.{Circuit}
pub use Rattle.cts_model.specs.declared.constraint.Constraint.{Constraint}
pub use Rattle.cts_model.specs.declared.period.PeriodShow.{PeriodShow}
pub use Rattle.cts_model.specs.declared.period.PeriodShow.TheVariants.{Cycle, Floor}
pub use Rattle.cts_model.specs.declared.place.Point.{Point}
pub use Rattle.cts_model.specs.declared.place.Sink.{Sink}
pub use Rattle.cts_model.specs.declared.place.Uv.{Uv}
pub use Rattle.cts_model.specs.declared.problem.Problem.{Problem}
pub use Rattle.cts_model.specs.declared.report.Version.TheVariants.{Second}
pub use Rattle.cts_model.specs.declared.schedule.Schedule.{Schedule}
pub use Rattle.cts_model.specs.declared.schedule.Slack.{Slack}
pub use Rattle.cts_model.specs.declared.signal.Signal.{Signal}
pub use Rattle.cts_model.specs.declared.tech.Tech.{Tech}
pub use Rattle.cts_model.specs.declared.timing.PairDelay.{PairDelay}
pub use Rattle.cts_model.specs.declared.tree.Merge.{Merge}
pub use Rattle.cts_model.specs.declared.tree.Show.{Show}
pub use Rattle.cts_model.specs.declared.tree.Topology.{Topology}
pub use Rattle.cts_model.specs.declared.tree.Tree.{Tree}
pub use Rattle.cts_model.specs.declared.tree.Wire.{Wire}
