use Rattle.schedule.specs.Reaching.{IsReaching}
use Rattle.schedule.proofs.reach.Reach.start.Given as goal

abbrev pub invariant-loop-register : goal.invariant-loop-register
invariant-loop-register l = IsReaching l.arrivals l.register l.reach
