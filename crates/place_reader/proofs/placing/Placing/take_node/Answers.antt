use Rattle.place_reader.proofs.Vocabulary.{None, inl, sym, refl, ◌∙◌, cond, kept_at, node_fault}
use Rattle.place_reader.specs.View.{node_said}
use Rattle.place_reader.proofs.PointLemmas.{none_found, node_twice, numbered_among, passed_over, placed_first, point_at-number, unnumbered_absent}
use Rattle.place_reader.proofs.placing.Placing.take_node.Goals as goal

pub returns-in_default-clause-taken : goal.returns-in_default-clause-taken
returns-in_default-clause-taken c =
    passed_over c.args.number (node_said c.args.node) refl refl (unnumbered_absent
    c.args.self.now.wanted c.args.node.name.now (sym c.in_default.ensures)) refl

pub returns-in-Err-clause-faulty : goal.returns-in-Err-clause-faulty
returns-in-Err-clause-faulty c =
    let there = numbered_among c.args.self.now.wanted c.args.node.name.now c.in-Some.at
    (sym c.in-Some.ensures) in
    inl (λ i. cond (there i) (node_fault c.args.number (sym c.in-Err.ensures i)
    (kept_at c.args.self.now c.args.node.name.now)) None)

pub returns-then-is_some-clause-faulty : goal.returns-then-is_some-clause-faulty
returns-then-is_some-clause-faulty c =
    let there = numbered_among c.args.self.now.wanted c.args.node.name.now c.in-Some.at
    (sym c.in-Some.ensures) in
    let first = point_at-number c.args.self.now.wanted c.args.self.now.points
    c.args.self.now.numbered c.args.node.name.now c.in-Some.at (sym c.in-Some.ensures) in
    inl ((λ i. cond (there i) (node_fault c.args.number (sym c.in-Ok.ensures i) (first i)) None)
    ∙ node_twice c.args.number c.in-Ok.point _
    (rw c.as_slice.ensures at (sym c.is_some.ensures ∙ c.if-is_some.true)))

pub returns-clause-taken : goal.returns-clause-taken
returns-clause-taken c =
    placed_first c.args.number (node_said c.args.node) refl refl c.in-Some.at c.in-Ok.point
    (sym c.in-Some.ensures) (sym c.in-Ok.ensures)
    (none_found _ (rw c.as_slice.ensures at (sym c.is_some.ensures ∙ c.if-is_some.false)))
    c.set.ensures
