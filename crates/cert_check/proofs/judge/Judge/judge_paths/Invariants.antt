-- The paths so far give the constraints their weights.
use Rattle.cert_check.proofs.Vocabulary.{AtEach, GivenPath}
use Rattle.cert_check.proofs.judge.Judge.judge_paths.Given as goal

abbrev pub invariant-loop-place : goal.invariant-loop-place
invariant-loop-place l = AtEach l.place (GivenPath l.self)
