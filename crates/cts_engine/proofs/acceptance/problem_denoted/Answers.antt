use Rattle.std.proofs.lemmas.Result.{err_from_is_err_and}
use Rattle.cts_base.proofs.Told.{told_ok}
use Rattle.place_reader.specs.declared.fault.PlaceFault.TheVariants.{NoMemory}
use Rattle.cts_engine.proofs.HostedLoops.{both_acyclic}
use Rattle.cts_engine.proofs.ProblemLemmas.{hostless_exactly, problem_of}
use Rattle.cts_engine.proofs.RefusalLemmas.{circuit_refused, places_refused}
use Rattle.cts_engine.proofs.acceptance.problem_denoted.Goals as goal

pub read_places-requires-clause-host : goal.read_places-requires-clause-host
read_places-requires-clause-host c =
    rw c.as_slice-2.ensures (hostless_exactly c.in_ok-circuit.field-0.circuit
    c.in_ok-circuit.field-0.tech.host c.in_ok-circuit.ensures.host)

pub returns-in_err-circuit-clause-cause : goal.returns-in_err-circuit-clause-cause
returns-in_err-circuit-clause-cause c =
    let p = err_from_is_err_and c.from_residual.result c.from_residual.ensures.1 in
    rw (p.1, p.2) (circuit_refused c.args.bench.now c.args.tech.now c.args.places.now _
    c.in_err-circuit.ensures.cause)

pub returns-in_err-places-clause-cause : goal.returns-in_err-places-clause-cause
returns-in_err-places-clause-cause c =
    let p = err_from_is_err_and c.from_residual-in_err-places.result
    c.from_residual-in_err-places.ensures.1 in
    let refused = rw (c.as_slice.ensures, c.as_slice-2.ensures) at c.in_err-places.ensures in
    rw (p.1, p.2) (places_refused c.args.bench.now c.args.tech.now c.args.places.now
    c.in_ok-circuit.field-0.circuit c.in_ok-circuit.field-0.tech c.in_ok-circuit.ensures.ok _
    refused)

pub invariant_of-result : goal.invariant_of-result
invariant_of-result c =
    let told = rw (c.as_slice.ensures, c.as_slice-2.ensures) at c.in_ok-places.ensures in
    let accepts = told_ok NoMemory _ c.in_ok-places.places told in
    record {
      valid = problem_of c.in_ok-circuit.field-0.circuit c.in_ok-circuit.field-0.tech
          c.in_ok-places.places c.args.places.now
          (both_acyclic c.args.bench.now c.args.tech.now c.in_ok-circuit.field-0.circuit
          c.in_ok-circuit.field-0.tech c.in_ok-circuit.ensures.ok)
          c.in_ok-circuit.ensures.kinds c.in_ok-circuit.ensures.host accepts;
    }

pub returns-clause-ok : goal.returns-clause-ok
returns-clause-ok c =
    let told = rw (c.as_slice.ensures, c.as_slice-2.ensures) at c.in_ok-places.ensures in
    record {
      tell = c.in_ok-circuit.ensures.ok;
      places = told_ok NoMemory _ c.in_ok-places.places told;
    }
