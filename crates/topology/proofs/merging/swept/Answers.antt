use Rattle.topology.proofs.Vocabulary.{arith}
use Rattle.topology.proofs.JoinLemmas.{sinks_live}
use Rattle.topology.proofs.SweepLemmas.{sweep_ends, sweep_starts}
use Rattle.topology.proofs.merging.swept.Goals as goal

pub loop-node-init : goal.loop-node-init
loop-node-init c =
    let first = c.in_ok-clusters.ensures in
    sweep_starts c.args.sinks.now _ c.in_ok-clusters.clusters.live _ c.requires.merges
    c.requires.queue c.requires.sinks.some first.early
    (sinks_live c.args.sinks.now c.in_ok-clusters.clusters.live first)

pub loop-node-preserved : goal.loop-node-preserved
loop-node-preserved c = c.in_ok-clusters-2.ensures c.args.sinks.now c.loop-node.invariant

pub loop-node-smaller : goal.loop-node-smaller
loop-node-smaller c = search arith

pub returns : goal.returns
returns c = rw c.count-clusters.ensures (sweep_ends c.args.sinks.now c.loop-node.merges
    c.loop-node.clusters.live c.loop-node.queue c.loop-node.node c.loop-node.clusters.ordered
    c.loop-node.invariant (omega (arith, c.loop-node-test.false, c.count.ensures)))
