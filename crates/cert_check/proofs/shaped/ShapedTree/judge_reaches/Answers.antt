-- One more.
use Rattle.cert_check.proofs.Vocabulary.{◌+◌, length, subst, arith, AtEach, HasReach}
use Rattle.cert_check.proofs.FirstPlaces.{each_more}
use Rattle.cert_check.proofs.shaped.ShapedTree.judge_reaches.Goals as goal

pub loop-place-preserved : goal.loop-place-preserved
loop-place-preserved c =
    let judge = c.args.self.now.judge in
    subst (λ count. AtEach count (HasReach judge)) (omega arith)
    (each_more (HasReach judge) (length judge.sinks.now + c.loop-place.place)
    c.loop-place.invariant (c.is_reach_shown.ensures.0 c.if-not-is_reach_shown.false))
