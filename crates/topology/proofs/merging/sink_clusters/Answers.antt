use Rattle.topology.proofs.Vocabulary.{arith, subst, slice_get-get_or, AreFirstSinks}
use Rattle.topology.proofs.JoinLemmas.{sink_added}
use Rattle.topology.proofs.merging.sink_clusters.Goals as goal

pub loop-sink-preserved : goal.loop-sink-preserved
loop-sink-preserved c = sink_added c.args.sinks.now c.loop-sink.sink-index _
    c.loop-sink.clusters.live c.in_ok-clusters.clusters.live c.of.result
    (slice_get-get_or c.args.sinks.now c.loop-sink.sink-index _ c.loop-sink-test.true)
    c.of.ensures.alone c.loop-sink.invariant c.in_ok-clusters.ensures

pub returns : goal.returns
returns c = subst (λ count. AreFirstSinks c.args.sinks.now count c.loop-sink.clusters.live)
    (omega (arith, c.loop-sink-test.false, c.loop-sink.auto.sink-index-end)) c.loop-sink.invariant
