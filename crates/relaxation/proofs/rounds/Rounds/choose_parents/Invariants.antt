use Rattle.relaxation.proofs.Vocabulary.{AreSameRounds}
use Rattle.relaxation.proofs.rounds.Rounds.choose_parents.Given as goal

abbrev pub invariant-loop-place : goal.invariant-loop-place
invariant-loop-place l = AreSameRounds l.initial.self l.self
