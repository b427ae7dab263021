-- What the registers passed so far capture.
use Rattle.path_delays.specs.Captured.{AreCapturedBelow}
use Rattle.path_delays.proofs.captures.captured_signals.Given as goal

abbrev pub invariant-loop-register : goal.invariant-loop-register
invariant-loop-register l = AreCapturedBelow l.circuit l.register l.signals.words.items
