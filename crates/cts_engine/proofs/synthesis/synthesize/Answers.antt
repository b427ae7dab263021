use Rattle.outcomes.specs.declared.period.PeriodOutcome.TheVariants.{Never}
use Rattle.cts_engine.proofs.OutcomeLemmas.{never_exactly}
use Rattle.cts_engine.proofs.ShownReports.{report_is_shown}
use Rattle.cts_engine.proofs.TreeBounds.{greedy_topology}
use Rattle.cts_engine.proofs.synthesis.synthesize.Goals as goal

pub report_with-requires-clause-topology : goal.report_with-requires-clause-topology
report_with-requires-clause-topology c =
    greedy_topology c.in-Found.timed.sinks c.in_ok-topology-in-Found.topology.merges
    (rw c.as_slice.ensures at c.in_ok-topology-in-Found.ensures.greedy)

pub returns-in_ok-report-in-Found-clause-shown : goal.returns-in_ok-report-in-Found-clause-shown
returns-in_ok-report-in-Found-clause-shown c = report_is_shown c.args.problem.now _ _
    c.in_ok-report-in-Found.ensures.ok

pub returns-in-Never-clause-never : goal.returns-in-Never-clause-never
returns-in-Never-clause-never c = never_exactly c.args.problem.now.circuit
    c.args.problem.now.tech (Never c.in-Never.cycle) (rw c.in-Never.is at c.in_ok-cycle.ensures.ok)
