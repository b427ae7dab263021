-- The types of this model, for its definitions.
pub use Rattle.cts_model.specs.declared.circuit.Circuit.{Circuit}
pub use Rattle.cts_model.specs.declared.constraint.Constraint.{Constraint}
pub use Rattle.cts_model.specs.declared.kind.Kind.{Kind}
pub use Rattle.cts_model.specs.declared.kind.Kind.TheVariants.{And, Buff, Dff, Host, Input, Nand, Nor, Not, Or, Xnor, Xor}
pub use Rattle.cts_model.specs.declared.period.PeriodShow.{PeriodShow}
pub use Rattle.cts_model.specs.declared.period.PeriodShow.TheVariants.{Cycle, Floor}
pub use Rattle.cts_model.specs.declared.place.Places.{Places}
pub use Rattle.cts_model.specs.declared.place.Point.{Point}
pub use Rattle.cts_model.specs.declared.place.Sink.{Sink}
pub use Rattle.cts_model.specs.declared.place.Uv.{Uv}
pub use Rattle.cts_model.specs.declared.report.Report.{Report}
pub use Rattle.cts_model.specs.declared.report.Version.{Version}
pub use Rattle.cts_model.specs.declared.report.Version.TheVariants.{First, Second}
pub use Rattle.cts_model.specs.declared.schedule.Lead.{Lead}
pub use Rattle.cts_model.specs.declared.schedule.Lead.TheVariants.{Tight, Zero}
pub use Rattle.cts_model.specs.declared.schedule.Schedule.{Schedule}
pub use Rattle.cts_model.specs.declared.schedule.Slack.{Slack}
pub use Rattle.cts_model.specs.declared.signal.Signal.{Signal}
pub use Rattle.cts_model.specs.declared.tech.GateDelay.{GateDelay}
pub use Rattle.cts_model.specs.declared.tech.Tech.{Tech}
pub use Rattle.cts_model.specs.declared.timing.PairDelay.{PairDelay}
pub use Rattle.cts_model.specs.declared.timing.ZeroSkew.{ZeroSkew}
pub use Rattle.cts_model.specs.declared.timing.ZeroSkew.TheVariants.{Fails, Setup}
pub use Rattle.cts_model.specs.declared.tree.Merge.{Merge}
pub use Rattle.cts_model.specs.declared.tree.Show.{Show}
pub use Rattle.cts_model.specs.declared.tree.Show.TheVariants.{Pair, Root}
pub use Rattle.cts_model.specs.declared.tree.Topology.{Topology}
pub use Rattle.cts_model.specs.declared.tree.Tree.{Tree}
pub use Rattle.cts_model.specs.declared.tree.Wire.{Wire}
