use Rattle.std.proofs.lemmas.Result.{err_from_is_err_and}
use Rattle.cts_engine.proofs.HostedLoops.{both_acyclic}
use Rattle.cts_c.proofs.RefusalLemmas.{both_unrefused}
use Rattle.cts_c.proofs.texts.circuit_of.Goals as goal

pub returns-in_err-accept_circuit-clause-accepted :
    goal.returns-in_err-accept_circuit-clause-accepted
returns-in_err-accept_circuit-clause-accepted c circuit delays short tell =
    let p = err_from_is_err_and c.from_residual.result c.from_residual.ensures.1 in
    rw (p.1, p.2) (both_unrefused c.args.bench.now c.args.tech.now circuit delays tell _
    c.in_err-accept_circuit.ensures.cause)

pub returns-clause-acyclic : goal.returns-clause-acyclic
returns-clause-acyclic c =
    both_acyclic c.args.bench.now c.args.tech.now _ c.in_ok-accept_circuit.field-0.tech
    c.in_ok-accept_circuit.ensures.ok
