use Rattle.relaxation.proofs.Vocabulary.{HasRisen}
use Rattle.relaxation.proofs.rounds.Rounds.hand_on.Given as goal

abbrev pub invariant-loop-step : goal.invariant-loop-step
invariant-loop-step l = HasRisen l.gains l.initial.self l.self
