-- One more.
use Rattle.cert_check.specs.JudgedReports.{LongEnough}
use Rattle.cert_check.proofs.FirstPlaces.{each_more}
use Rattle.cert_check.proofs.shaped.ShapedTree.judge_lengths.Goals as goal

pub loop-edge-preserved : goal.loop-edge-preserved
loop-edge-preserved c = each_more (LongEnough c.args.self.now.judge)
    c.loop-edge.edge c.loop-edge.invariant
    (c.is_long_enough.ensures.0 c.if-not-is_long_enough.false)
