use Rattle.relaxation.proofs.Vocabulary.{◌<◌, length, HasRisen}
use Rattle.relaxation.proofs.rounds.Rounds.raise_down.Given as goal

abbrev pub invariant-loop-step : goal.invariant-loop-step
invariant-loop-step l = HasRisen l.gains l.initial.self l.self
    × (l.register < length l.self.marks.items)
