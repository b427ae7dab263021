use Rattle.std.proofs.Common.{◌-◌, length}
use Rattle.schedule.proofs.HandLemmas.{IsTaking}
use Rattle.schedule.proofs.reach.Reach.reach_all.Given as goal

abbrev pub invariant-loop-taken : goal.invariant-loop-taken
invariant-loop-taken l = IsTaking l.tight.arrivals l.taken l.self

abbrev pub decreases-loop-taken : goal.decreases-loop-taken
decreases-loop-taken l = length l.tight.arrivals.at.now - l.taken
