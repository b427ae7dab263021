use Rattle.cts_engine.proofs.Vocabulary.{length, inl, inr, refl, ap, subst, sym, arith, made_parent, CanDrawEdge}
use Rattle.cts_engine.proofs.DrawLemmas.{all_drawn, drawn_all, drawn_more, drawn_small, joined_low, read_merge, root_low, root_parent}
use Rattle.cts_engine.proofs.wires.wires_of.Goals as goal

pub overflow_mul-sinks : goal.overflow_mul-sinks
overflow_mul-sinks c = omega (arith, c.requires.few)

pub draw-requires-clause-edge : goal.draw-requires-clause-edge
draw-requires-clause-edge c =
    let merges = c.args.topology.now.merges in
    let here = read_merge c.as_slice-merge-items.result.now merges c.loop-merge.merge-index
    c.as_slice-merge-items.ensures c.loop-merge-test.true in
    subst (CanDrawEdge c.args.tree.now _) (sym c.loop-merge.invariant.parent)
    (c.requires.tree _ _
    (made_parent c.args.sinks merges c.loop-merge.merge-index _ here _ (inl refl)))

pub draw-requires-clause-node : goal.draw-requires-clause-node
draw-requires-clause-node c =
    let here = read_merge c.as_slice-merge-items.result.now c.args.topology.now.merges
    c.loop-merge.merge-index c.as_slice-merge-items.ensures c.loop-merge-test.true in
    (joined_low c.requires.topology c.loop-merge.merge-index c.loop-merge.parent _
    c.loop-merge.wires here c.loop-merge.invariant).0

pub draw-requires-in-loop-merge-clause-edge : goal.draw-requires-in-loop-merge-clause-edge
draw-requires-in-loop-merge-clause-edge c =
    let merges = c.args.topology.now.merges in
    let here = read_merge c.as_slice-merge-items.result.now merges c.loop-merge.merge-index
    c.as_slice-merge-items.ensures c.loop-merge-test.true in
    subst (CanDrawEdge c.args.tree.now _) (sym c.loop-merge.invariant.parent)
    (c.requires.tree _ _
    (made_parent c.args.sinks merges c.loop-merge.merge-index _ here _ (inr refl)))

pub draw-requires-in-loop-merge-clause-node : goal.draw-requires-in-loop-merge-clause-node
draw-requires-in-loop-merge-clause-node c =
    let here = read_merge c.as_slice-merge-items.result.now c.args.topology.now.merges
    c.loop-merge.merge-index c.as_slice-merge-items.ensures c.loop-merge-test.true in
    let low = joined_low c.requires.topology c.loop-merge.merge-index c.loop-merge.parent _
    c.loop-merge.wires here c.loop-merge.invariant in
    omega (arith, low.1, drawn_all c.draw.ensures low.0)

pub loop-merge-preserved : goal.loop-merge-preserved
loop-merge-preserved c =
    let merges = c.args.topology.now.merges in
    let here = read_merge c.as_slice-merge-items.result.now merges c.loop-merge.merge-index
    c.as_slice-merge-items.ensures c.loop-merge-test.true in
    drawn_more c.requires.topology c.loop-merge.merge-index c.loop-merge.parent _
    c.loop-merge.wires c.draw.new.wires c.draw-in-loop-merge.new.wires here
    c.loop-merge.invariant c.draw.ensures c.draw-in-loop-merge.ensures

pub draw-requires-2-clause-edge : goal.draw-requires-2-clause-edge
draw-requires-2-clause-edge c =
    c.requires.tree _ _ (root_parent c.args.sinks c.args.topology.now.merges)

pub returns-clause-drawn : goal.returns-clause-drawn
returns-clause-drawn c = all_drawn c.requires.topology c.loop-merge.merge-index
    c.loop-merge.parent c.loop-merge.wires c.draw-2.new.wires
    (omega (arith, c.loop-merge-test.false, ap length c.as_slice-merge-items.ensures))
    c.loop-merge.invariant c.draw-2.ensures

pub returns-clause-small : goal.returns-clause-small
returns-clause-small c = search (arith, drawn_small, root_low)
