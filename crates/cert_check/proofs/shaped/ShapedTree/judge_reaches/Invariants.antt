-- The reaches of the merges so far are shown.
use Rattle.std.proofs.Common.{◌+◌, length}
use Rattle.cert_check.proofs.Vocabulary.{AtEach, HasReach}
use Rattle.cert_check.proofs.shaped.ShapedTree.judge_reaches.Given as goal

abbrev pub invariant-loop-place : goal.invariant-loop-place
invariant-loop-place l =
    AtEach (length l.self.judge.sinks.now + l.place) (HasReach l.self.judge)
