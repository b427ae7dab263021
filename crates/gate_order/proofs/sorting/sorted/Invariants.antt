use Rattle.gate_order.proofs.Vocabulary.{◌+◌, ◌-◌, length, waiting_count}
use Rattle.gate_order.proofs.SortSteps.{IsSorting}
use Rattle.gate_order.proofs.sorting.sorted.Given as goal

abbrev pub invariant-loop-taken : goal.invariant-loop-taken
invariant-loop-taken l =
    IsSorting l.circuit.signals l.pairs.items l.taken l.sorting.waiting.items l.sorting.order.items

abbrev pub decreases-loop-taken : goal.decreases-loop-taken
decreases-loop-taken l =
    (length l.sorting.order.items + waiting_count l.sorting.waiting.items) - l.taken
