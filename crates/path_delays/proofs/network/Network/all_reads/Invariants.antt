-- The pairs of the signals passed so far.
use Rattle.path_delays.specs.Networks.{AreAllReads}
use Rattle.path_delays.proofs.network.Network.all_reads.Given as goal

abbrev pub invariant-loop-number : goal.invariant-loop-number
invariant-loop-number l = AreAllReads l.circuit.signals l.number l.pairs.items
