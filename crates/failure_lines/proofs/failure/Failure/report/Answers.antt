use Rattle.failure_lines.specs.Failures.{failure_line}
use Rattle.failure_lines.proofs.LineLemmas.{puts_both, told_nothing, told_reported}
use Rattle.failure_lines.proofs.failure.Failure.report.Goals as goal

pub returns : goal.returns
returns g c =
    let puts = puts_both (rw c.new-line.ensures at c.put.ensures)
    (puts_both c.push.ensures c.flush.ensures.told) in
    let told = puts.told _ _ _
    (told_nothing (g.E.Sink.written c.args.err.now) (g.E.Sink.faults c.args.err.now)) in
    told_reported c.flush.new.self.failed (failure_line c.args.self.now) _ _ _ _
    (rw c.flush.ensures.empty at told)
