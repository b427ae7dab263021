use Rattle.std.proofs.lemmas.Result.{err_from_is_err_and}
use Rattle.cts_engine.proofs.ProblemLemmas.{gives_used, gives_hosted, has_host-hosted}
use Rattle.cts_engine.proofs.acceptance.accept_table.Goals as goal

pub returns-in_err-tech-clause-cause : goal.returns-in_err-tech-clause-cause
returns-in_err-tech-clause-cause c =
    let p = err_from_is_err_and c.from_residual.result c.from_residual.ensures.1 in
    rw (p.1, p.2) (c.used_kinds.result, c.used_kinds.ensures, c.in_err-tech.ensures.refused)

pub returns-in_err-circuit-clause-cause : goal.returns-in_err-circuit-clause-cause
returns-in_err-circuit-clause-cause c =
    let p = err_from_is_err_and c.from_residual-in_err-circuit.result
    c.from_residual-in_err-circuit.ensures.1 in
    rw (p.1, p.2) (c.used_kinds.result, c.used_kinds.ensures, tt)

pub returns-clause-ok : goal.returns-clause-ok
returns-clause-ok c = record {
  used = c.used_kinds.result;
  kinds = c.used_kinds.ensures;
  accepts = c.in_ok-tech.ensures.ok;
}

pub returns-clause-kinds : goal.returns-clause-kinds
returns-clause-kinds c =
    gives_hosted c.in_ok-tech.tech c.args.circuit c.in_ok-circuit.circuit
    (gives_used c.args.circuit c.in_ok-tech.tech c.used_kinds.result c.used_kinds.ensures
    c.in_ok-tech.ensures.given) c.in_ok-circuit.ensures

pub returns-clause-host : goal.returns-clause-host
returns-clause-host c =
    has_host-hosted c.in_ok-tech.tech c.args.circuit c.in_ok-circuit.circuit
    c.requires c.in_ok-circuit.ensures
