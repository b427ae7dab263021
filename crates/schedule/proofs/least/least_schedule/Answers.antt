-- The gains at the period are admitted, and give the least schedule, whose arrivals are low and
-- small.
use Rattle.schedule.proofs.Vocabulary.{subst, sym, AreSmallConstraints}
use Rattle.schedule.proofs.PeriodLemmas.{admits_gains, bound_at_period, least_at_period, small_at_period}
use Rattle.schedule.proofs.least.least_schedule.Goals as goal

pub least_arrivals-requires-clause-admitted : goal.least_arrivals-requires-clause-admitted
least_arrivals-requires-clause-admitted c =
    admits_gains c.gains_of.ensures c.args.constraints.now c.requires.admitted

pub returns-clause-least : goal.returns-clause-least
returns-clause-least c =
    least_at_period c.gains_of.ensures c.args.constraints.now c.in_ok-at.at c.in_ok-at.ensures.least

pub returns-clause-bound : goal.returns-clause-bound
returns-clause-bound c = bound_at_period c.gains_of.ensures c.args.constraints.now c.in_ok-at.at
    (subst (λ n. AreSmallConstraints n c.args.constraints.now) (sym c.in_ok-at.ensures.registers)
    c.requires.small) c.requires.period c.requires.admitted c.in_ok-at.ensures.least

pub returns-clause-small : goal.returns-clause-small
returns-clause-small c = small_at_period c.gains_of.ensures c.args.constraints.now c.in_ok-at.at
    (subst (λ n. AreSmallConstraints n c.args.constraints.now) (sym c.in_ok-at.ensures.registers)
    c.requires.small) c.requires.period c.requires.admitted c.in_ok-at.ensures.least
