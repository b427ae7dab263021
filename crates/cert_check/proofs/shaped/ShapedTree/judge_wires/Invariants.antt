-- The edges so far are drawn.
use Rattle.cert_check.proofs.Vocabulary.{AtEach, Drawn}
use Rattle.cert_check.proofs.shaped.ShapedTree.judge_wires.Given as goal

abbrev pub invariant-loop-edge : goal.invariant-loop-edge
invariant-loop-edge l = AtEach l.edge (Drawn l.self.judge)
