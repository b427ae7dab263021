use Rattle.schedule.proofs.HandLemmas.{IsHanding}
use Rattle.schedule.proofs.reach.Reach.hand_on.Given as goal

abbrev pub invariant-loop-mark : goal.invariant-loop-mark
invariant-loop-mark l = IsHanding l.tight.arrivals l.register l.mark
    l.initial.self l.self

abbrev pub decreases-loop-mark : goal.decreases-loop-mark
decreases-loop-mark l = l.mark
