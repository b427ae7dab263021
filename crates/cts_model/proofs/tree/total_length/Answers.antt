use Rattle.cts_model.proofs.Vocabulary.{pos, slice_index_or, arith, ints}
use Rattle.cts_model.proofs.TotalLemmas.{total_more, total_within}
use Rattle.cts_model.proofs.tree.total_length.Goals as goal

pub overflow_add-total : goal.overflow_add-total
overflow_add-total c =
    let lengths = c.args.lengths.now in
    let place = c.loop-length.length-index in
    let sum = total_within (λ node. slice_index_or lengths node (pos 0)) place
    (λ node here. c.requires.small node (pos 0)
    (omega (arith, here, c.loop-length-test.true))) in
    let next = c.requires.small place (pos 0) c.loop-length-test.true in
    omega (
      arith,
      ints,
      sum,
      next,
      c.loop-length.invariant,
      c.requires.few,
      c.loop-length-test.true,
    )

pub loop-length-preserved : goal.loop-length-preserved
loop-length-preserved c =
    let lengths = c.args.lengths.now in
    let place = c.loop-length.length-index in
    let sum = total_within (λ node. slice_index_or lengths node (pos 0)) place
    (λ node here. c.requires.small node (pos 0)
    (omega (arith, here, c.loop-length-test.true))) in
    let next = c.requires.small place (pos 0) c.loop-length-test.true in
    let more = total_more (λ node. slice_index_or lengths node (pos 0)) place in
    omega (
      arith,
      ints,
      sum,
      next,
      more,
      c.loop-length.invariant,
      c.loop-length.total-is,
      c.requires.few,
      c.loop-length-test.true,
    )

pub returns-clause-below : goal.returns-clause-below
returns-clause-below c =
    let lengths = c.args.lengths.now in
    let place = c.loop-length.length-index in
    let sum = total_within (λ node. slice_index_or lengths node (pos 0)) place
    (λ node here. c.requires.small node (pos 0)
    (omega (arith, here, c.loop-length.auto.length-index-end))) in
    record {
      above = omega (
        arith,
        ints,
        sum.0,
        c.loop-length.invariant,
        c.loop-length.total-is,
        c.requires.few,
        c.loop-length.auto.length-index-end,
      );
      below = omega (
        arith,
        ints,
        sum.1,
        c.loop-length.invariant,
        c.loop-length.total-is,
        c.requires.few,
        c.loop-length.auto.length-index-end,
      );
    }
