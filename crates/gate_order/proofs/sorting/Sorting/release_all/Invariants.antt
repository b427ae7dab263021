use Rattle.gate_order.proofs.Vocabulary.{take, AreReleased}
use Rattle.gate_order.proofs.sorting.Sorting.release_all.Given as goal

abbrev pub invariant-loop-reader : goal.invariant-loop-reader
invariant-loop-reader l = AreReleased (take l.reader-index l.readers) l.initial.self.waiting.items
    l.initial.self.order.items l.self.waiting.items l.self.order.items
