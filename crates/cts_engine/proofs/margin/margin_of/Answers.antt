-- The constraints of the pairs say the same as the paths.
use Rattle.outcomes.specs.declared.margin.MarginOutcome.TheVariants.{Found, Unbounded}
use Rattle.cts_engine.proofs.MarginLemmas.{found_over_paths, unbounded_exactly, unbounded_over_paths}
use Rattle.cts_engine.proofs.margin.margin_of.Goals as goal

pub returns-in-Found-clause-ok : goal.returns-in-Found-clause-ok
returns-in-Found-clause-ok c =
    let circuit = c.args.circuit.now in
    let lists = c.in_ok-pairs.ensures.ok.lists in
    found_over_paths lists c.in_ok-constraints.ensures.value c.len-registers.ensures
    c.args.period c.in_ok-value.field-0 c.in_ok-value.ensures.margin
    (c.in_ok-constraints.ensures.each circuit lists) c.in-Found.value c.in-Found.cycle
    c.in-Found.schedule c.in-Found.is c.in_ok-constraints_at-in-Found.field-0
    c.in_ok-constraints_at-in-Found.ensures

pub returns-in-Found-clause-unbounded : goal.returns-in-Found-clause-unbounded
returns-in-Found-clause-unbounded c =
    unbounded_exactly c.args.circuit.now c.args.tech.now c.args.period
    (Found c.in-Found.value c.in_ok-constraints_at-in-Found.field-0 c.in-Found.schedule)
    (returns-in-Found-clause-ok c)

pub returns-clause-ok : goal.returns-clause-ok
returns-clause-ok c =
    unbounded_over_paths c.in_ok-pairs.ensures.ok.lists c.in_ok-constraints.ensures.value
    c.len-registers.ensures c.args.period c.in_ok-value.field-0 c.in_ok-value.ensures.margin
    c.in-Unbounded.is

pub returns-clause-unbounded : goal.returns-clause-unbounded
returns-clause-unbounded c =
    unbounded_exactly c.args.circuit.now c.args.tech.now c.args.period Unbounded
    (returns-clause-ok c)
