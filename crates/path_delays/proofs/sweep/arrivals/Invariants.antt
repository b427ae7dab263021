-- What the registers passed so far launch is started.
use Rattle.path_delays.specs.WindowParts.{AreLaunched}
use Rattle.path_delays.proofs.sweep.arrivals.Given as goal

abbrev pub invariant-loop-from : goal.invariant-loop-from
invariant-loop-from l = AreLaunched l.circuit l.tech l.schedule l.from l.windows.items
