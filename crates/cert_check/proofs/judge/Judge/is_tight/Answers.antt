-- The differences are compared as they are.
use Rattle.cert_check.proofs.Vocabulary.{◌-ℤ◌, ◌*ℤ◌, ◌∙◌, arith, w128, ints, to_z-of_z}
use Rattle.cert_check.proofs.judge.Judge.is_tight.Goals as goal

pub overflow_sub-head : goal.overflow_sub-head
overflow_sub-head c =
    omega (arith, ints, c.arrival-head.ensures.small, c.arrival-tail.ensures.small)

pub returns : goal.returns
returns c =
    let period = c.args.self.now.report.now.period in
    let constraint = c.args.constraint.now in
    let head = c.arrival-head.ensures in
    let tail = c.arrival-tail.ensures in
    let weight = to_z-of_z w128 constraint.weight
    (omega (arith, ints, c.requires.small.above, c.requires.small.below)) in
    let count = to_z-of_z w128 c.count_of.result (record { sfits = c.count_of.type_inv })
    ∙ c.count_of.ensures.value in
    let asked = to_z-of_z w128 c.asked-asked.result (record { sfits = c.asked-asked.type_inv })
    ∙ c.asked-asked.ensures
    ∙ (λ i. (period.den *ℤ weight i) -ℤ (period.num *ℤ count i)) in (
      λ test. omega (arith, ints, head, tail, asked, c.are_same.ensures.0 test),
      λ tight. c.are_same.ensures.1 (omega (arith, ints, head, tail, asked, tight)),
    )
