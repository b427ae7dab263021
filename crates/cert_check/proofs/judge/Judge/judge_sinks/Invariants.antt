-- The sinks so far are at their places.
use Rattle.cert_check.proofs.Vocabulary.{StandsAt, AtEach, tree_of}
use Rattle.cert_check.proofs.judge.Judge.judge_sinks.Given as goal

abbrev pub invariant-loop-register : goal.invariant-loop-register
invariant-loop-register l = AtEach l.register (StandsAt l.self.sinks.now (tree_of l.self))
