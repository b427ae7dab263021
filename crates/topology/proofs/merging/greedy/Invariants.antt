use Rattle.topology.proofs.Vocabulary.{◌≡◌, ◌+◌, length, IsMerging}
use Rattle.topology.proofs.merging.greedy.Given as goal

-- all is right with the merges so far
abbrev pub invariant-loop-merge : goal.invariant-loop-merge
invariant-loop-merge l = IsMerging l.sinks l.merges l.clusters.live l.queue
    × (l._merge ≡ length l.merges + 1)
