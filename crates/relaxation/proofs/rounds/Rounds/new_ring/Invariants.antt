use Rattle.relaxation.proofs.Vocabulary.{◌<◌, length, AreSameRounds}
use Rattle.relaxation.proofs.rounds.Rounds.new_ring.Given as goal

abbrev pub invariant-loop-step : goal.invariant-loop-step
invariant-loop-step l = AreSameRounds l.initial.self l.self
    × (l.register < length l.self.marks.items)
