use Rattle.place_down.proofs.Vocabulary.{◌≤◌, length, StandFrom, StaysAbove}
use Rattle.place_down.proofs.top_down.settle_merges.Given as goal

abbrev pub invariant-loop-place : goal.invariant-loop-place
invariant-loop-place l = (l.place ≤ length l.topology.merges)
    × StandFrom l.sinks l.topology.merges l.place l.work × StaysAbove l.initial.work l.work

abbrev pub decreases-loop-place : goal.decreases-loop-place
decreases-loop-place l = l.place
