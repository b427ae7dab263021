use Rattle.relaxation.proofs.Vocabulary.{HasRisen}
use Rattle.relaxation.proofs.rounds.Rounds.hand_all_on.Given as goal

abbrev pub invariant-loop-turn : goal.invariant-loop-turn
invariant-loop-turn l = HasRisen l.gains l.initial.self l.self
