-- One constraint more is added to both sums, and in the end they are compared as they are.
use Rattle.cert_check.proofs.Vocabulary.{◌+ℤ◌, pos, false, get_or, to_z, of_z, arith, common_steps, w128, ints, to_z-of_z, Constraint}
use Rattle.cert_check.proofs.SumLemmas.{sums_all, sums_next}
use Rattle.cert_check.proofs.judge.Judge.is_worth.Goals as goal

-- what stands past the end of the list
abbrev none : Constraint
none = record { setup = false; tail = 0; head = 0; weight = pos 0 }

pub loop-constraint-preserved : goal.loop-constraint-preserved
loop-constraint-preserved c =
    let self = c.args.self.now in
    let cycle = self.cycle.now in
    let loop = c.loop-constraint in
    let place = loop.constraint-index in
    let by = loop.invariant in
    let within = c.loop-constraint-test.true in
    let few = self.short in
    let next = get_or cycle place none in
    let small = self.light place none within in
    let once = c.count_of-count.ensures in
    let weight = to_z w128 loop.weight-bits in
    let count = to_z w128 loop.count-bits in
    sums_next cycle place none weight count
    (to_z w128 (of_z w128 (weight +ℤ to_z w128 (of_z w128 next.weight))))
    (to_z w128 (of_z w128 (count +ℤ to_z w128 (of_z w128 c.count_of-count.result))))
    within small (omega (arith, ints, by, small, few, within))
    (omega (arith, ints, by, once, few, within)) by

pub overflow_add-weight : goal.overflow_add-weight
overflow_add-weight c =
    let self = c.args.self.now in
    let within = c.loop-constraint-test.true in
    let small = self.light c.loop-constraint.constraint-index none within in
    omega (arith, ints, c.loop-constraint.invariant, small, self.short, within)

pub returns-then-count-ge1 : goal.returns-then-count-ge1
returns-then-count-ge1 c =
    let sums = sums_all c.args.self.now.cycle.now c.loop-constraint.constraint-index _ _
    (omega (arith, c.loop-constraint-test.false)) c.loop-constraint.invariant in
    search (arith, ints, to_z-of_z, sums, c.asked.ensures)

pub returns-else-count-ge1 : goal.returns-else-count-ge1
returns-else-count-ge1 c = grind (arith, common_steps)
