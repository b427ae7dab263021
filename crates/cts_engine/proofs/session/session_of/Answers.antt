use Rattle.cts_engine.proofs.Vocabulary.{◌≤◌, ◌^◌, ◌∙◌, ap, sym, subst, arith, unsigned_abs, ints, IsWithin, grid_size, number_read, AreTimedSinks, Never}
use Rattle.cts_engine.proofs.OutcomeLemmas.{never_exactly}
use Rattle.cts_engine.proofs.SessionLemmas.{grid_within, session_is}
use Rattle.cts_engine.proofs.SinkLemmas.{tree_source}
use Rattle.cts_engine.proofs.TreeBounds.{greedy_topology}
use Rattle.cts_engine.proofs.session.session_of.Goals as goal

pub open-requires-clause-topology : goal.open-requires-clause-topology
open-requires-clause-topology c = greedy_topology c.as_slice-sinks.result.now
    c.in_ok-topology-in-Found.topology.merges c.in_ok-topology-in-Found.ensures.greedy

pub open-requires-clause-source : goal.open-requires-clause-source
open-requires-clause-source c =
    let problem = c.args.problem.now in
    let timed : AreTimedSinks problem c.in-Found.timed =
    rw c.in-Found.is at c.in_ok-cycle.ensures.ok in
    rw c.rotated-source.ensures
    (tree_source c.in-Found.timed.period problem.tech timed.least.range
    problem.places.source problem.valid.source_near)

pub returns-in-Never-clause-never : goal.returns-in-Never-clause-never
returns-in-Never-clause-never c = never_exactly c.args.problem.now.circuit
    c.args.problem.now.tech (Never c.in-Never.cycle) (rw c.in-Never.is at c.in_ok-cycle.ensures.ok)

pub returns-in_ok-session-in-Found-clause-ok : goal.returns-in_ok-session-in-Found-clause-ok
returns-in_ok-session-in-Found-clause-ok c =
    let problem = c.args.problem.now in
    let timed : AreTimedSinks problem c.in-Found.timed =
    rw c.in-Found.is at c.in_ok-cycle.ensures.ok in
    let small : unsigned_abs c.steps_of_unit.result ≤ 10 ^ 32 =
    omega (
      arith,
      ap unsigned_abs c.steps_of_unit.ensures,
      grid_size c.in-Found.timed.period problem.tech timed.least.range,
    ) in
    session_is problem c.in-Found.timed c.in_ok-topology-in-Found.topology.merges
    c.in_ok-session-in-Found.session _ timed
    (rw c.as_slice-sinks.ensures at c.in_ok-topology-in-Found.ensures.greedy)
    (rw (c.as_slice-sinks.ensures, c.rotated-source.ensures)
    at c.in_ok-session-in-Found.ensures.stands)
    c.in_ok-session-in-Found.ensures.renewals
    (number_read c.steps_of_unit.result small ∙ c.steps_of_unit.ensures)

pub returns-in_ok-session-in-Found-clause-small : goal.returns-in_ok-session-in-Found-clause-small
returns-in_ok-session-in-Found-clause-small c =
    let problem = c.args.problem.now in
    let timed : AreTimedSinks problem c.in-Found.timed =
    rw c.in-Found.is at c.in_ok-cycle.ensures.ok in
    let within : IsWithin 1 (10 ^ 17) c.steps_of_unit.result =
    subst (IsWithin 1 (10 ^ 17)) (sym c.steps_of_unit.ensures)
    (grid_within c.in-Found.timed.period problem.tech timed.least.range) in
    record {
      above = omega (arith, ints, within.above, within.below);
      below = omega (arith, ints, within.above, within.below);
    }

pub returns-in_ok-session-in-Found-clause-never : goal.returns-in_ok-session-in-Found-clause-never
returns-in_ok-session-in-Found-clause-never c = search arith
