-- All signals below the rank hand on their sums.
use Rattle.path_delays.proofs.Vocabulary.{◌+◌, ◌-◌, ◌≤◌, length, HasReachRoom, IsSpreadBelow}
use Rattle.path_delays.proofs.reach.Reach.reach_up_to.Given as goal

abbrev pub invariant-loop-next : goal.invariant-loop-next
invariant-loop-next l = record {
  spread : IsSpreadBelow l.from.circuit.now l.from.tech.now l.network l.from.registers.now
      (length l.from.registers.now) l.rank l.self;
  room : HasReachRoom l.network l.self;
  counted : 1 ≤ l.rank;
}

abbrev pub decreases-loop-next : goal.decreases-loop-next
decreases-loop-next l = (length l.network.order.items + 1) - l.rank
