-- What the greatest ratio says of the period, and what each answer excludes.
use Rattle.critical_cycle.proofs.Vocabulary.{subst, sym, refl, HasSmallValue, IsPeriodOf}
use Rattle.critical_cycle.proofs.PeriodLemmas.{floor_can_try, floor_exactly, floor_is, never_exactly, period_right, small_right}
use Rattle.critical_cycle.proofs.period.least_period.Goals as goal

pub greatest_ratio-requires-clause-first : goal.greatest_ratio-requires-clause-first
greatest_ratio-requires-clause-first c = floor_can_try _ c.args.floor c.of-first.result
    (record { scale_is = refl; period_is = refl; every_is = refl }) c.requires.floor
    (floor_is c.args.floor c.of-first.result c.requires.floor c.of-first.ensures.value
    c.of-first.ensures.den)

pub returns-clause-period : goal.returns-clause-period
returns-clause-period c =
    subst (IsPeriodOf c.args.constraints.now c.args.floor) (sym c.period_of.ensures)
    (period_right (record { scale_is = refl; period_is = refl; every_is = refl })
    c.args.constraints.now
    (floor_is c.args.floor c.of-first.result c.requires.floor c.of-first.ensures.value
    c.of-first.ensures.den) c.in_ok-ratio.ratio c.in_ok-ratio.ensures.ratio)

pub returns-clause-never : goal.returns-clause-never
returns-clause-never c = never_exactly c.args.constraints.now c.args.floor c.period_of.result
    (returns-clause-period c)

pub returns-clause-floor : goal.returns-clause-floor
returns-clause-floor c = floor_exactly c.args.constraints.now c.args.floor c.period_of.result
    (returns-clause-period c)

pub returns-clause-small : goal.returns-clause-small
returns-clause-small c = subst HasSmallValue (sym c.period_of.ensures)
    (small_right (record { scale_is = refl; period_is = refl; every_is = refl })
    c.args.constraints.now
    (floor_is c.args.floor c.of-first.result c.requires.floor c.of-first.ensures.value
    c.of-first.ensures.den) c.requires.floor c.in_ok-ratio.ratio c.in_ok-ratio.ensures.ratio)
