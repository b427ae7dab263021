use Rattle.topology.proofs.Vocabulary.{AreFirstSinks}
use Rattle.topology.proofs.merging.sink_clusters.Given as goal

-- the sinks so far have their clusters
abbrev pub invariant-loop-sink : goal.invariant-loop-sink
invariant-loop-sink l = AreFirstSinks l.sinks l.sink-index l.clusters.live
