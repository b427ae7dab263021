-- The edge is from the one parent.
use Rattle.cert_check.proofs.Vocabulary.{arith, w128, ints, to_z-of_z, tree_of}
use Rattle.cert_check.proofs.EdgeLemmas.{reaches_same}
use Rattle.cert_check.proofs.ShowLemmas.{kept_at}
use Rattle.cert_check.proofs.shaped.ShapedTree.is_long_enough.Goals as goal

pub returns : goal.returns
returns c =
    let self = c.args.self.now.judge in
    let long = kept_at self.report.now.tree.length c.as_slice.result.now c.args.edge
    c.as_slice.ensures self.tree.lengths
    (omega (arith, c.requires, c.args.self.now.are.all, self.count, self.size.lengths)) in
    let kept = to_z-of_z w128 c.manhattan.result (record { sfits = c.manhattan.type_inv }) in
    let far = rw c.as_slice-places.ensures at c.manhattan.ensures.value in
    let law = reaches_same c.args.self.now.are.topology c.args.edge c.parent_of.result
    c.parent_of.ensures.parent (tree_of self) in (
      λ test. law.0 (omega (arith, ints, test, kept, far, long)),
      λ holds. let reached = law.1 holds in rw (kept, far, long) (grind (arith, ints, reached)),
    )
