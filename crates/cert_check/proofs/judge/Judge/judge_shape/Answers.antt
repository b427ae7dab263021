-- The sinks, the merges and the source are all the nodes.
use Rattle.cert_check.proofs.Vocabulary.{◌*◌, length, arith, HasShape, embedding_of, TreeShape, Judges}
use Rattle.cert_check.proofs.FirstPlaces.{passed_on}
use Rattle.cert_check.proofs.ShapeLemmas.{merges_stop, source_decides, source_topology}
use Rattle.cert_check.proofs.judge.Judge.judge_shape.Goals as goal

pub returns-in_err-judge_merges-clause-shape : goal.returns-in_err-judge_merges-clause-shape
returns-in_err-judge_merges-clause-shape c =
    let self = c.args.self.now in
    let report = self.report.now in
    let stop = c.in_err-judge_merges.field-0.0 in
    passed_on (Judges (2 * length self.sinks.now) (HasShape self.sinks.now report.topology.merges
    self.source (embedding_of report.tree)) TreeShape) c.from_residual-in_err-judge_merges.result
    stop c.from_residual-in_err-judge_merges.ensures.1
    (merges_stop self.sinks.now report.topology.merges self.source (embedding_of report.tree)
    (omega (arith, self.size.merges, self.count)) c.in_ok-judge_sinks.ensures stop
    c.in_err-judge_merges.ensures)

pub returns-clause-shape : goal.returns-clause-shape
returns-clause-shape c = search (arith, source_decides)

pub returns-clause-topology : goal.returns-clause-topology
returns-clause-topology c =
    let self = c.args.self.now in
    let report = self.report.now in
    source_topology self.sinks.now report.topology.merges self.source (embedding_of report.tree)
    (omega (arith, self.size.merges, self.count)) c.in_ok-judge_sinks.ensures
    c.judge_source.result c.in_ok-judge_merges.ensures c.judge_source.ensures
