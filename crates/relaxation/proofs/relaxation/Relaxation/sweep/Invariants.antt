use Rattle.relaxation.proofs.StepLemmas.{IsUnderWay}
use Rattle.relaxation.proofs.relaxation.Relaxation.sweep.Given as goal

abbrev pub invariant-loop-turn : goal.invariant-loop-turn
invariant-loop-turn l =
    IsUnderWay l.gains l.forwards l.turn l.changed l.initial.self l.self
