use Rattle.topology.proofs.Vocabulary.{heap_items, IsPermutation, ◌∷◌, map, subst, IsPermutation-map}
use Rattle.topology.proofs.QueueLemmas.{pair_in}
use Rattle.topology.proofs.queue.Queue.push.Goals as goal

pub returns : goal.returns
returns c =
    subst (λ xs. IsPermutation (c.args.pair ∷ xs) (map pair_in (heap_items c.push.new.self)))
    c.self.view_is
    (IsPermutation-map pair_in (record { 0 = c.args.pair } ∷ heap_items c.self.inside.heap)
    (heap_items c.push.new.self) c.in_ok-push.ensures.permutation)
