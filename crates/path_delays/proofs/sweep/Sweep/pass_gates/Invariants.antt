-- The gates of the order so far are passed.
use Rattle.path_delays.specs.WindowParts.{ArePassed}
use Rattle.path_delays.proofs.sweep.Sweep.pass_gates.Given as goal

abbrev pub invariant-loop-gate : goal.invariant-loop-gate
invariant-loop-gate l = ArePassed l.self.circuit.now l.self.tech.now l.self.schedule.now l.levels
    l.gate-index l.windows.items
