-- The wire is drawn from the one parent.
use Rattle.cert_check.proofs.Vocabulary.{◌≡◌, pos, [], get_or, to_z, of_z, arith, w128, ints, slice_get-get_or, Wire, tree_of}
use Rattle.cert_check.proofs.EdgeLemmas.{drawn_same}
use Rattle.cert_check.proofs.shaped.ShapedTree.is_drawn_edge.Goals as goal

pub returns : goal.returns
returns c =
    let self = c.args.self.now.judge in
    let tree = self.report.now.tree in
    let wires = self.report.now.wires in
    let edge = c.args.edge in
    let within = c.requires in
    let all = c.args.self.now.are.all in
    let none : Wire = record { corners = []; used = 0 } in
    let kept : to_z w128 (of_z w128 (get_or tree.length edge (pos 0))) ≡ get_or tree.length edge
    (pos 0) =
    omega (
      arith,
      ints,
      self.tree.lengths edge (pos 0) (omega (arith, within, all, self.count, self.size.lengths)),
    ) in
    let is = rw (c.as_slice-places.ensures, c.as_slice.ensures, c.as_slice-2.ensures, kept)
    at c.is_drawn.ensures in
    let here = slice_get-get_or wires edge none
    (omega (arith, within, all, self.count, self.size.wires)) in
    let law = drawn_same c.args.self.now.are.topology edge c.parent_of.result
    c.parent_of.ensures.parent (tree_of self) wires (get_or wires edge none) here in (
      λ test. law.0 (is.0 test),
      λ drawn. is.1 (law.1 drawn),
    )
