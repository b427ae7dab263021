use Rattle.gate_order.proofs.Vocabulary.{◌≡◌, ◌++◌, take, reads_among}
use Rattle.gate_order.proofs.gate_reads.push_reads.Given as goal

abbrev pub invariant-loop-input : goal.invariant-loop-input
invariant-loop-input l = l.pairs.items
    ≡ l.initial.pairs.items ++ reads_among l.signals l.number (take l.input-index l.input-items)
