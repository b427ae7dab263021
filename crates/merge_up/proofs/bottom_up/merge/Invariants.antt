use Rattle.merge_up.proofs.WorkLemmas.{IsMergedBefore}
use Rattle.merge_up.proofs.bottom_up.merge.Given as goal

abbrev pub invariant-loop-place : goal.invariant-loop-place
invariant-loop-place l = IsMergedBefore l.sinks l.topology.merges l.place l.fn.work l.work
