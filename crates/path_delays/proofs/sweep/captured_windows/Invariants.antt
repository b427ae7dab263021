-- The windows of the registers passed so far.
use Rattle.path_delays.specs.WindowParts.{AreCaptures}
use Rattle.path_delays.proofs.sweep.captured_windows.Given as goal

abbrev pub invariant-loop-register : goal.invariant-loop-register
invariant-loop-register l = AreCaptures l.circuit l.windows l.register l.captured.items
