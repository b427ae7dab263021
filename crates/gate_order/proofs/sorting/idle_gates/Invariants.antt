use Rattle.gate_order.specs.Sorted.{AreIdleGates}
use Rattle.gate_order.proofs.sorting.idle_gates.Given as goal

abbrev pub invariant-loop-number : goal.invariant-loop-number
invariant-loop-number l = AreIdleGates l.circuit.signals l.waiting l.number l.order.items
