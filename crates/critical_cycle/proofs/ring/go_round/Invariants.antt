-- The walk so far: fewer entries are free after each step.
use Rattle.std.proofs.Common.{◌≡◌, length}
use Rattle.critical_cycle.proofs.RoundWalk.{IsRoundWalk}
use Rattle.critical_cycle.proofs.ring.go_round.Given as goal

abbrev pub invariant-loop-register : goal.invariant-loop-register
invariant-loop-register l = (length l.places ≡ length l.parents)
    × IsRoundWalk l.constraints l.parents l.places l.start l.at l.register

abbrev pub decreases-loop-register : goal.decreases-loop-register
decreases-loop-register l = l.at
