-- The gains at the period are admitted, and give the least schedule, whose arrivals are low and
-- small.
use Rattle.schedule.proofs.Vocabulary.{◌∙◌, ap, length, pos, subst, sym, length-replicate, AreSmallConstraints}
use Rattle.schedule.proofs.PeriodLemmas.{admits_gains, bound_at_period, least_at_period, small_at_period}
use Rattle.schedule.proofs.RiseLemmas.{CanRaise-zero}
use Rattle.schedule.proofs.least.least_schedule_in.Goals as goal

pub settled-at-requires : goal.settled-at-requires
settled-at-requires c =
    let constraints = c.args.constraints.now in
    rw (
      c.without_parents-relaxation.ensures.zero.constraints_are,
      c.as_slice.ensures,
      c.without_parents-relaxation.ensures.zero.values,
      c.into_vec.ensures,
    )
    (CanRaise-zero (length c.args.at) (record {
      small = c.requires.small;
      admitted = admits_gains c.gains_of.ensures constraints c.requires.admitted;
    }))

pub returns-clause-least : goal.returns-clause-least
returns-clause-least c = least_at_period c.gains_of.ensures
    c.args.constraints.now c.settled-at.result
    (rw (c.without_parents-relaxation.ensures.zero.constraints_are, c.as_slice.ensures) at
    c.settled-at.ensures.least)

pub returns-clause-registers : goal.returns-clause-registers
returns-clause-registers c = c.settled-at.ensures.registers
    ∙ (ap length c.without_parents-relaxation.ensures.zero.values
    ∙ (length-replicate (length c.into_vec.result.items) (pos 0) ∙ ap length c.into_vec.ensures))

pub returns-clause-bound : goal.returns-clause-bound
returns-clause-bound c = bound_at_period c.gains_of.ensures c.args.constraints.now
    c.settled-at.result (subst (λ n. AreSmallConstraints n c.args.constraints.now)
    (sym (returns-clause-registers c)) c.requires.small)
    c.requires.period c.requires.admitted
    (rw (c.without_parents-relaxation.ensures.zero.constraints_are, c.as_slice.ensures) at
    c.settled-at.ensures.least)

pub returns-clause-small : goal.returns-clause-small
returns-clause-small c = small_at_period c.gains_of.ensures c.args.constraints.now
    c.settled-at.result (subst (λ n. AreSmallConstraints n c.args.constraints.now)
    (sym (returns-clause-registers c)) c.requires.small)
    c.requires.period c.requires.admitted
    (rw (c.without_parents-relaxation.ensures.zero.constraints_are, c.as_slice.ensures) at
    c.settled-at.ensures.least)
