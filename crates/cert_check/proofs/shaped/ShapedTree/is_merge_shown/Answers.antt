-- The merge stands at the place.
use Rattle.cert_check.proofs.Vocabulary.{length, arith, first_made, second_made}
use Rattle.cert_check.proofs.shaped.ShapedTree.is_merge_shown.Goals as goal

pub is_reach_over-requires-clause-below : goal.is_reach_over-requires-clause-below
is_reach_over-requires-clause-below c =
    let self = c.args.self.now.judge in
    let here = rw c.as_slice.ensures at c.item_at-merge.ensures in
    let made = first_made (length self.sinks.now) self.report.now.topology.merges
    c.args.self.now.are.topology.each c.args.place c.item_at-merge.result.now here in
    omega (arith, made, c.args.self.now.are.topology.all, c.requires)

pub is_reach_over-requires-then-is_reach_over-clause-below :
    goal.is_reach_over-requires-then-is_reach_over-clause-below
is_reach_over-requires-then-is_reach_over-clause-below c =
    let self = c.args.self.now.judge in
    let here = rw c.as_slice.ensures at c.item_at-merge.ensures in
    let made = second_made (length self.sinks.now) self.report.now.topology.merges
    c.args.self.now.are.topology.each c.args.place c.item_at-merge.result.now here in
    omega (arith, made, c.args.self.now.are.topology.all, c.requires)
