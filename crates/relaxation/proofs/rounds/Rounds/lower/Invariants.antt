use Rattle.relaxation.proofs.Vocabulary.{AreSameRounds}
use Rattle.relaxation.proofs.rounds.Rounds.lower.Given as goal

abbrev pub invariant-loop-register : goal.invariant-loop-register
invariant-loop-register l = AreSameRounds l.initial.self l.self
