use Rattle.cts_engine.proofs.Vocabulary.{◌∙◌, nat_abs, Never}
use Rattle.cts_engine.proofs.ArrivalLemmas.{admitted_by}
use Rattle.cts_engine.proofs.OutcomeLemmas.{least_arrivals, never_exactly}
use Rattle.cts_engine.proofs.scheduling.schedule_of.Goals as goal

pub least_schedule-requires-clause-admitted : goal.least_schedule-requires-clause-admitted
least_schedule-requires-clause-admitted c =
    let timing = (rw c.in-Found.is at c.in_ok-timing.ensures).0 in
    admitted_by timing.constraints_are c.in-Found.period timing.least

pub returns-clause-ok : goal.returns-clause-ok
returns-clause-ok c =
    let timing = (rw c.in-Found.is at c.in_ok-timing.ensures).0 in
    let period = c.in-Found.period in
    let made = c.in_ok-schedule-in-Found.ensures in
    record {
      found = record {
        zero = c.zero_skew-zero.ensures.least c.args.circuit.now c.in_ok-pairs.ensures.ok.lists;
        least = timing.least;
        shown = timing.is_shown;
      };
      least = record {
        den = made.den;
        registers = made.registers ∙ c.len-registers.ensures;
        least = least_arrivals timing.constraints_are period.num (nat_abs period.den) _ made.least;
      };
      spared = c.in_ok-slacks-in-Found.ensures.ok;
    }

pub returns-in-Never-clause-never : goal.returns-in-Never-clause-never
returns-in-Never-clause-never c =
    never_exactly c.args.circuit.now c.args.tech.now (Never c.in-Never.cycle)
    (rw c.in-Never.is at c.in_ok-timing.ensures).0
