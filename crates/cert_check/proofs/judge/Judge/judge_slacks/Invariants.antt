-- The registers so far have the slacks that are printed.
use Rattle.cert_check.proofs.Vocabulary.{AtEach, Spares}
use Rattle.cert_check.proofs.judge.Judge.judge_slacks.Given as goal

abbrev pub invariant-loop-register : goal.invariant-loop-register
invariant-loop-register l = AtEach l.register (Spares l.self)
