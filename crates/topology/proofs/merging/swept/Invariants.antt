use Rattle.topology.proofs.Vocabulary.{◌+◌, ◌-◌, length, IsSwept}
use Rattle.topology.proofs.merging.swept.Given as goal

-- the nodes so far are swept
abbrev pub invariant-loop-node : goal.invariant-loop-node
invariant-loop-node l = IsSwept l.sinks l.merges l.clusters.live l.queue l.node

-- there are no more nodes than the sinks and as many merges
abbrev pub decreases-loop-node : goal.decreases-loop-node
decreases-loop-node l = length l.sinks + length l.sinks - l.node
