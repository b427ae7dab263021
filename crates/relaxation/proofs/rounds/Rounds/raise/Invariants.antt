use Rattle.relaxation.proofs.Vocabulary.{HasRisen}
use Rattle.relaxation.proofs.rounds.Rounds.raise.Given as goal

abbrev pub invariant-loop-round : goal.invariant-loop-round
invariant-loop-round l = HasRisen l.gains l.initial.self l.self
