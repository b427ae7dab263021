-- The code's numbers are small, so they are what the definitions say.
use Rattle.relaxation.proofs.Vocabulary.{◌^◌, sym, subst, refl, IsBelow}
use Rattle.relaxation.proofs.RelaxLemmas.{sum_fits, offered_read}
use Rattle.relaxation.proofs.relaxation.Relaxation.offered.Goals as goal

pub overflow_add-offer : goal.overflow_add-offer
overflow_add-offer c = sum_fits c.index.result.now c.gain.result (subst (IsBelow (2 ^ 115))
    (sym c.index.ensures) (c.requires.small c.args.constraint.now.tail c.index.result.now
    c.requires.constraint.tail)) c.gain.ensures.small

pub returns : goal.returns
returns c = rw c.then_some.ensures (offered_read (record {
  within = c.requires.constraint;
  small = c.requires.small;
  from_is = c.index.ensures;
  gain_is = c.gain.ensures.gain;
  gain_small = c.gain.ensures.small;
  to_is = c.index-2.ensures;
}) _ refl)
