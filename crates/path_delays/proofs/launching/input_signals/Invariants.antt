-- The inputs passed so far.
use Rattle.path_delays.specs.Networks.{AreInputsBelow}
use Rattle.path_delays.proofs.launching.input_signals.Given as goal

abbrev pub invariant-loop-number : goal.invariant-loop-number
invariant-loop-number l = AreInputsBelow l.circuit l.number l.inputs.items
