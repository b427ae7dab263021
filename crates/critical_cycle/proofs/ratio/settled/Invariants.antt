-- Each raise leaves fewer.
use Rattle.critical_cycle.proofs.Vocabulary.{IsSameSearch, raises_left}
use Rattle.critical_cycle.proofs.ratio.settled.Given as goal

abbrev pub invariant-loop-register : goal.invariant-loop-register
invariant-loop-register l = IsSameSearch l.initial.trials.search l.trials.search

abbrev pub decreases-loop-register : goal.decreases-loop-register
decreases-loop-register l =
    raises_left l.trials.search.measure l.trials.search.first l.trials.search.shown
