use Rattle.cts_engine.proofs.Vocabulary.{◌≤◌, ◌∙◌, subst, arith, nat_abs, depth_of, lead_at}
use Rattle.cts_engine.proofs.ArrivalLemmas.{admitted_by, leads_of_circuit, tree_arrivals}
use Rattle.cts_engine.proofs.CycleLengths.{few_registers}
use Rattle.cts_engine.proofs.OutcomeLemmas.{least_arrivals}
use Rattle.cts_engine.proofs.times.times_of.Goals as goal

pub least_schedule-requires-clause-admitted : goal.least_schedule-requires-clause-admitted
least_schedule-requires-clause-admitted c =
    admitted_by c.requires.period.constraints_are c.args.period c.requires.period.least

pub returns : goal.returns
returns c =
    let circuit = c.args.problem.now.circuit in
    let tech = c.args.problem.now.tech in
    let constraints = c.args.constraints.now in
    let period = c.args.period in
    let at = c.in_ok-schedule.schedule.at in
    let are = c.requires.period.constraints_are in
    let found = c.in_ok-schedule.ensures in
    let registers = found.registers ∙ c.len-registers.ensures in
    record {
      paths = rw c.requires.paths at c.in_ok-paths.ensures;
      schedule = record {
        den = found.den;
        registers = registers;
        least = least_arrivals are period.num (nat_abs period.den) at found.least;
      };
      slacks = c.in_ok-slacks.ensures.ok;
      leads = leads_of_circuit circuit tech constraints period at c.in_ok-leads.leads are.each
          c.in_ok-leads.ensures.each;
      all_leads = c.in_ok-leads.ensures.registers ∙ c.len-registers.ensures;
      low_leads = λ register.
          subst (λ n. depth_of (lead_at c.in_ok-leads.leads register) ≤ n) c.len-registers.ensures
          (c.in_ok-leads.ensures.low register);
      arrivals = tree_arrivals circuit tech constraints period at c.requires.period.delays are.each
          c.requires.period.range (omega (arith, registers, few_registers circuit)) found.bound
          found.least.from_zero;
    }
