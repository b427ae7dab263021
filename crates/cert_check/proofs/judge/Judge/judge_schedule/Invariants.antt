-- The paths to the registers so far meet the period.
use Rattle.cert_check.proofs.Vocabulary.{AtEach, Meets}
use Rattle.cert_check.proofs.judge.Judge.judge_schedule.Given as goal

abbrev pub invariant-loop-register : goal.invariant-loop-register
invariant-loop-register l = AtEach l.register (Meets l.self)
