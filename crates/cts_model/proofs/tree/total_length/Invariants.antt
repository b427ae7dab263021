use Rattle.cts_model.proofs.Vocabulary.{◌≡◌, pos, slice_index_or, total_length}
use Rattle.cts_model.proofs.tree.total_length.Given as goal

abbrev pub invariant-loop-length : goal.invariant-loop-length
invariant-loop-length l =
    l.total ≡ total_length (λ node. slice_index_or l.lengths node (pos 0)) l.length-index
