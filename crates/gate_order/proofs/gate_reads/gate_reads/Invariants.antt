use Rattle.gate_order.specs.GateReads.{AreReads}
use Rattle.gate_order.proofs.gate_reads.gate_reads.Given as goal

abbrev pub invariant-loop-number : goal.invariant-loop-number
invariant-loop-number l = AreReads l.signals l.number l.pairs.items
