use Rattle.move_session.proofs.StepsUp.{IsOnWay}
use Rattle.move_session.proofs.way_up.renew_above.Given as goal

abbrev pub invariant-loop-place : goal.invariant-loop-place
invariant-loop-place l = IsOnWay l.sinks l.topology.merges l.register l.place l.node l.fn.work
    l.work
