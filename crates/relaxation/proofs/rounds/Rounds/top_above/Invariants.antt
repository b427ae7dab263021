use Rattle.relaxation.proofs.Vocabulary.{◌≡◌, ◌<◌, IfSome, length}
use Rattle.relaxation.proofs.rounds.Rounds.top_above.Given as goal

abbrev pub invariant-loop-step : goal.invariant-loop-step
invariant-loop-step l = (l.register < length l.self.marks.items)
    × IfSome l.top (λ top. top < length l.self.marks.items)
    × (l.self.relaxation ≡ l.initial.self.relaxation)
