-- Arrivals of 0 can be raised, and so can those that were.
use Rattle.schedule.proofs.Vocabulary.{◌∙◌, subst, sym, AreLeastArrivalsBy, CanRaise}
use Rattle.relaxation.proofs.RiseLemmas.{AreRaised-none}
use Rattle.schedule.proofs.RiseLemmas.{CanRaise-raised, CanRaise-zero}
use Rattle.schedule.proofs.least.least_arrivals.Goals as goal

pub settled-requires : goal.settled-requires
settled-requires c =
    let kept = c.in_ok-rounds.ensures.constraints_are ∙ c.as_slice.ensures in
    subst (λ them. CanRaise them c.args.gains c.raise.new.self.relaxation.values.items)
    (sym (c.raise.ensures.same.constraints ∙ kept))
    (CanRaise-raised (c.raise.ensures.raised _ _ kept
    (AreRaised-none _)) (rw c.in_ok-rounds.ensures.values (CanRaise-zero c.args.registers
    (record { small = c.requires.small; admitted = c.requires.admitted }))))

pub returns-clause-least : goal.returns-clause-least
returns-clause-least c =
    subst (λ them. AreLeastArrivalsBy them c.args.gains c.settled.result)
    (c.raise.ensures.same.constraints ∙ c.in_ok-rounds.ensures.constraints_are ∙ c.as_slice.ensures)
    c.settled.ensures.least
