-- The register of the lane starts with each signal passed so far.
use Rattle.path_delays.proofs.Vocabulary.{take, HasReachRoom, AllBelow, BegunIn, IsSpread}
use Rattle.path_delays.proofs.reach.Reach.launch.Given as goal

abbrev pub invariant-loop-signal : goal.invariant-loop-signal
invariant-loop-signal l = record {
  spread : IsSpread l.from.circuit.now l.from.tech.now l.network l.from.registers.now
      (BegunIn l.lane.number (take l.signal-index l.signal-items))
      (AllBelow l.network 1) 1 l.self;
  room : HasReachRoom l.network l.self;
}
