-- The wires down to the registers so far differ as scheduled.
use Rattle.cert_check.proofs.Vocabulary.{AtEach, Skewed}
use Rattle.cert_check.proofs.shaped.ShapedTree.judge_skews.Given as goal

abbrev pub invariant-loop-register : goal.invariant-loop-register
invariant-loop-register l = AtEach l.register (Skewed l.self.judge)
