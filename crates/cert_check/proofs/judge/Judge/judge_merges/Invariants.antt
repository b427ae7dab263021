-- The merges so far join what they may, and that is marked.
use Rattle.std.proofs.Common.{length}
use Rattle.cert_check.proofs.MarkLemmas.{AreMarkedBefore}
use Rattle.cert_check.proofs.judge.Judge.judge_merges.Given as goal

abbrev pub invariant-loop-place : goal.invariant-loop-place
invariant-loop-place l = AreMarkedBefore (length l.self.sinks.now)
    l.self.report.now.topology.merges l.place l.joined.items
