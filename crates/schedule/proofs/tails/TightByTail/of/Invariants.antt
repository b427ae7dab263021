use Rattle.schedule.specs.Tails.{AreTightByTail}
use Rattle.schedule.proofs.tails.TightByTail.of.Given as goal

abbrev pub invariant-loop-place : goal.invariant-loop-place
invariant-loop-place l = AreTightByTail l.arrivals l.place l.last.items l.before.items
