use Rattle.cts_engine.proofs.DrawLemmas.{AreDrawnBefore}
use Rattle.cts_engine.proofs.wires.wires_of.Given as goal

abbrev pub invariant-loop-merge : goal.invariant-loop-merge
invariant-loop-merge l =
    AreDrawnBefore l.sinks l.topology.merges l.tree l.merge-index l.parent l.wires
