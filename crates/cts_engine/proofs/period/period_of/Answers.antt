use Rattle.outcomes.specs.declared.period.PeriodOutcome.TheVariants.{Found, Never}
use Rattle.cts_engine.proofs.OutcomeLemmas.{never_exactly}
use Rattle.cts_engine.proofs.period.period_of.Goals as goal

pub returns-clause-ok : goal.returns-clause-ok
returns-clause-ok c =
    let timing = (rw c.in-Found.is at c.in_ok-cycle.ensures).0 in
    record {
      zero = c.zero_skew-zero.ensures.least c.args.circuit.now c.in_ok-pairs.ensures.ok.lists;
      least = timing.least;
      shown = timing.is_shown;
    }

pub returns-clause-never : goal.returns-clause-never
returns-clause-never c =
    never_exactly c.args.circuit.now c.args.tech.now
    (Found c.zero_skew-zero.result c.in-Found.period c.in-Found.shown) (returns-clause-ok c)

pub returns-in-Never-clause-never : goal.returns-in-Never-clause-never
returns-in-Never-clause-never c =
    never_exactly c.args.circuit.now c.args.tech.now (Never c.in-Never.cycle)
    (rw c.in-Never.is at c.in_ok-cycle.ensures).0
