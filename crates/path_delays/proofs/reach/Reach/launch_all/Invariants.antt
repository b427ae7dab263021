-- The registers passed so far start, each in its lane with each signal that it launches.
use Rattle.path_delays.proofs.Vocabulary.{HasReachRoom, IsSpreadBelow}
use Rattle.path_delays.proofs.reach.Reach.launch_all.Given as goal

abbrev pub invariant-loop-lane : goal.invariant-loop-lane
invariant-loop-lane l = record {
  spread : IsSpreadBelow l.from.circuit.now l.from.tech.now l.network l.from.registers.now l.lane 1
      l.self;
  room : HasReachRoom l.network l.self;
}
