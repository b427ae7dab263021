-- One edge up.
use Rattle.cert_check.proofs.Vocabulary.{arith, eq-eqb, eqb-true}
use Rattle.cert_check.proofs.ClimbLemmas.{climb_end, climb_next, climb_start}
use Rattle.cert_check.proofs.shaped.ShapedTree.has_below.Goals as goal

pub loop-at-init : goal.loop-at-init
loop-at-init c =
    climb_start c.args.self.now.are.topology c.args.register c.args.node c.requires.register

pub loop-at-preserved : goal.loop-at-preserved
loop-at-preserved c = search (arith, climb_next)

pub returns : goal.returns
returns c = search (arith, climb_end, eqb-true, eq-eqb)
