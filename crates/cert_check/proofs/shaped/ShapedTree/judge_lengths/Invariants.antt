-- The edges so far are long enough.
use Rattle.cert_check.proofs.Vocabulary.{AtEach, LongEnough}
use Rattle.cert_check.proofs.shaped.ShapedTree.judge_lengths.Given as goal

abbrev pub invariant-loop-edge : goal.invariant-loop-edge
invariant-loop-edge l = AtEach l.edge (LongEnough l.self.judge)
