use Rattle.std.proofs.Common.{length}
use Rattle.cert_check.proofs.ParentLists.{AreParentsBefore}
use Rattle.cert_check.proofs.judge.Judge.parents_of.Given as goal

abbrev pub invariant-loop-merge : goal.invariant-loop-merge
invariant-loop-merge l = AreParentsBefore (length l.self.sinks.now) l.merges l.merge-index
    l.parent l.parents.items
