-- One more.
use Rattle.cert_check.proofs.Vocabulary.{arith, Drawn}
use Rattle.cert_check.proofs.FirstPlaces.{each_more}
use Rattle.cert_check.proofs.shaped.ShapedTree.judge_wires.Goals as goal

pub loop-edge-preserved : goal.loop-edge-preserved
loop-edge-preserved c = each_more (Drawn c.args.self.now.judge)
    c.loop-edge.edge c.loop-edge.invariant
    (c.is_drawn_edge.ensures.0 c.if-not-is_drawn_edge.false)

pub returns : goal.returns
returns c edge within =
    let self = c.args.self.now in
    c.loop-edge.invariant edge (omega (
      arith,
      within,
      c.loop-edge-test.false,
      self.are.all,
      self.judge.count,
      self.judge.size.lengths,
    ))
