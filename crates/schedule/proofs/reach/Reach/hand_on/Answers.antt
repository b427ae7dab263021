use Rattle.schedule.proofs.Vocabulary.{◌-◌, length, arith, subst, sym, get_or_read, IsLastBefore}
use Rattle.schedule.proofs.HandLemmas.{IsHanding-none, IsHanding-more, next_mark}
use Rattle.schedule.proofs.reach.Reach.hand_on.Goals as goal

pub loop-mark-init : goal.loop-mark-init
loop-mark-init c =
    let tails = c.args.tight.now.linked in
    let register = c.args.register in
    IsHanding-none c.requires.reaching (subst (IsLastBefore c.args.tight.now.arrivals
    (length c.args.tight.now.arrivals.constraints.now) register)
    (sym (get_or_read c.args.tight.now.last.items register
    c.index-mark.result.now (omega (arith, tails.lasts, c.requires.within)) c.index-mark.ensures 0))
    (tails.last_is register c.requires.within))

pub offer-requires-clause-place : goal.offer-requires-clause-place
offer-requires-clause-place c = omega (arith, c.loop-mark.invariant.bound)

pub index-mark-requires-in-loop-mark : goal.index-mark-requires-in-loop-mark
index-mark-requires-in-loop-mark c =
    omega (arith, c.loop-mark.invariant.bound, c.args.tight.now.linked.befores)

pub loop-mark-smaller : goal.loop-mark-smaller
loop-mark-smaller c =
    let last = next_mark c.loop-mark.invariant c.args.tight.now.linked (c.loop-mark.mark - 1)
    (omega arith) c.index-mark-in-loop-mark.result.now c.index-mark-in-loop-mark.ensures in
    omega (arith, last.within)

pub loop-mark-preserved : goal.loop-mark-preserved
loop-mark-preserved c =
    let next = c.index-mark-in-loop-mark.result.now in
    IsHanding-more c.loop-mark.invariant (c.loop-mark.mark - 1) (omega arith) c.in_ok-offer.ensures
    next (next_mark c.loop-mark.invariant c.args.tight.now.linked (c.loop-mark.mark - 1)
    (omega arith) next c.index-mark-in-loop-mark.ensures)
