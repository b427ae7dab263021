-- The numbers are compared as they are.
use Rattle.cert_check.proofs.Vocabulary.{arith, ints}
use Rattle.cert_check.proofs.ShowLemmas.{kept_at}
use Rattle.cert_check.proofs.judge.Judge.is_reach_over.Goals as goal

pub returns : goal.returns
returns c =
    let self = c.args.self.now in
    let kept = kept_at self.report.now.tree.length c.as_slice.result.now c.args.below
    c.as_slice.ensures self.tree.lengths
    (omega (arith, c.requires.below, self.count, self.size.lengths)) in
    let differ = c.difference.ensures in
    let above = c.reach.ensures.value in
    let small = c.reach.ensures.small in
    let under = c.reach-2.ensures.value in
    let also_small = c.reach-2.ensures.small in (
      λ holds.
          let same = c.are_same.ensures.0 holds in
          omega (arith, ints, same, kept, differ, above, small, under, also_small),
      λ over. c.are_same.ensures.1
          (omega (arith, ints, over, kept, differ, above, small, under, also_small)),
    )
