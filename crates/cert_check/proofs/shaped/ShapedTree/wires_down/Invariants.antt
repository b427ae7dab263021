-- The wires down to the last nodes are known.
use Rattle.std.proofs.Common.{length}
use Rattle.cert_check.proofs.DownLemmas.{Handed}
use Rattle.cert_check.proofs.shaped.ShapedTree.wires_down.Given as goal

abbrev pub invariant-loop-done : goal.invariant-loop-done
invariant-loop-done l = Handed (length l.self.judge.sinks.now)
    l.self.judge.report.now.topology.merges l.self.judge.report.now.tree.length l.wires.items l.done
