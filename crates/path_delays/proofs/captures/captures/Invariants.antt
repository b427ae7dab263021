-- The pairs of the registers passed so far.
use Rattle.path_delays.specs.Captured.{AreAllCaptures}
use Rattle.path_delays.proofs.captures.captures.Given as goal

abbrev pub invariant-loop-register : goal.invariant-loop-register
invariant-loop-register l = AreAllCaptures l.circuit l.register l.pairs.items
