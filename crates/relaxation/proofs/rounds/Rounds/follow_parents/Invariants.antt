use Rattle.relaxation.proofs.Vocabulary.{HasRisen}
use Rattle.relaxation.proofs.rounds.Rounds.follow_parents.Given as goal

abbrev pub invariant-loop-register : goal.invariant-loop-register
invariant-loop-register l = HasRisen l.gains l.initial.self l.self
