-- One node more.
use Rattle.cert_check.proofs.Vocabulary.{◌≡◌, ◌+◌, ◌-◌, ◌*◌, ◌^◌, pos, length, set, sym, subst, arith, common_steps}
use Rattle.cert_check.proofs.DownLemmas.{Handed, handed_all, handed_small, handed_turn, read_small, sum_kept}
use Rattle.cert_check.proofs.ShowLemmas.{kept_below}
use Rattle.cert_check.proofs.shaped.ShapedTree.wires_down.Goals as goal

pub loop-done-init : goal.loop-done-init
loop-done-init c = grind (arith, common_steps)

pub sum-requires-clause-one : goal.sum-requires-clause-one
sum-requires-clause-one c =
    let tree = c.args.self.now in
    let judge = tree.judge in
    let lengths = judge.report.now.tree.length in
    let low = rw c.as_slice-lengths.ensures at c.loop-done-test.true in
    kept_below (10 ^ 36) (10 ^ 36) _ (omega arith) (omega arith)
    (read_small tree.are.topology lengths judge.tree.lengths
    (omega (arith, judge.count, judge.size.lengths)) c.loop-done.wires.items c.loop-done.done
    (length lengths - 1 - c.loop-done.done) _ c.loop-done.invariant (omega (arith, low))
    (rw c.as_slice-lengths.ensures at c.parent_of-parent.ensures.parent) _ c.index.ensures
    (omega (arith, low, judge.few, judge.count, judge.size.lengths)))

pub sum-requires-clause-other : goal.sum-requires-clause-other
sum-requires-clause-other c =
    let judge = c.args.self.now.judge in
    let lengths = judge.report.now.tree.length in
    let low = rw c.as_slice-lengths.ensures at c.loop-done-test.true in
    rw c.as_slice-lengths.ensures
    (kept_below (10 ^ 32) (10 ^ 36) _ (omega arith) (omega arith)
    (judge.tree.lengths (length lengths - 1 - c.loop-done.done) (pos 0) (omega (arith, low))))

pub loop-done-preserved : goal.loop-done-preserved
loop-done-preserved c =
    let tree = c.args.self.now in
    let judge = tree.judge in
    let lengths = judge.report.now.tree.length in
    let wires = c.loop-done.wires.items in
    let done = c.loop-done.done in
    let node = length lengths - 1 - done in
    let low = rw c.as_slice-lengths.ensures at c.loop-done-test.true in
    let edges : length lengths + 1 ≡ 2 * length judge.sinks.now =
    omega (arith, judge.count, judge.size.lengths) in
    let parent = rw c.as_slice-lengths.ensures at c.parent_of-parent.ensures.parent in
    let same = sum_kept tree.are.topology lengths judge.tree.lengths edges wires done node _
    c.loop-done.invariant (omega (arith, low)) parent _ c.sum.result c.index.ensures
    (omega (arith, low, judge.few, judge.count, judge.size.lengths))
    (rw c.as_slice-lengths.ensures at c.sum.ensures) in
    rw c.as_slice-lengths.ensures
    (subst (λ wire. Handed (length judge.sinks.now) judge.report.now.topology.merges lengths
    (set wires node wire) (done + 1)) (sym same)
    (handed_turn tree.are.topology lengths judge.tree.lengths edges wires done node _
    c.loop-done.invariant (omega (arith, low)) parent))

pub returns-clause-wires : goal.returns-clause-wires
returns-clause-wires c =
    let tree = c.args.self.now in
    let judge = tree.judge in
    let lengths = judge.report.now.tree.length in
    let all = rw c.as_slice-lengths.ensures at c.loop-done-test.false in
    let end = rw c.as_slice-lengths.ensures at c.loop-done.auto.done-end in
    handed_all tree.are.topology lengths judge.tree.lengths
    (omega (arith, judge.count, judge.size.lengths)) c.loop-done.wires.items
    (subst (Handed (length judge.sinks.now) judge.report.now.topology.merges lengths
    c.loop-done.wires.items) (omega (arith, all, end)) c.loop-done.invariant)

pub returns-clause-small : goal.returns-clause-small
returns-clause-small c =
    let tree = c.args.self.now in
    let judge = tree.judge in
    let end = rw c.as_slice-lengths.ensures at c.loop-done.auto.done-end in
    handed_small tree.are.topology judge.report.now.tree.length judge.tree.lengths
    (omega (arith, judge.count, judge.size.lengths)) c.loop-done.wires.items c.loop-done.done
    c.loop-done.invariant (omega (arith, end, judge.few, judge.count, judge.size.lengths))
