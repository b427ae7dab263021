use Rattle.topology.specs.LiveClusters.{AreKept}
use Rattle.topology.proofs.CoverLemmas.{broken_pairs}
use Rattle.topology.proofs.merging.cheapest.Given as goal

-- every pair is covered
abbrev pub invariant-loop-pair : goal.invariant-loop-pair
invariant-loop-pair l = AreKept l.clusters.live l.queue

-- how many pairs are broken up
abbrev pub decreases-loop-pair : goal.decreases-loop-pair
decreases-loop-pair l = broken_pairs l.clusters.live l.queue
