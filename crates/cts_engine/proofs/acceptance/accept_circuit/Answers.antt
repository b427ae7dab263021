use Rattle.std.proofs.lemmas.Result.{err_from_is_err_and}
use Rattle.cts_engine.proofs.RefusalLemmas.{bench_refused, tech_refused}
use Rattle.cts_engine.proofs.acceptance.accept_circuit.Goals as goal

pub returns-in_err-bare-clause-cause : goal.returns-in_err-bare-clause-cause
returns-in_err-bare-clause-cause c =
    let p = err_from_is_err_and c.from_residual.result c.from_residual.ensures.1 in
    rw (p.1, p.2) (bench_refused c.args.bench.now c.args.tech.now _ c.in_err-bare.ensures.told)

pub returns-in_err-accept_table-clause-cause : goal.returns-in_err-accept_table-clause-cause
returns-in_err-accept_table-clause-cause c =
    let p = err_from_is_err_and c.from_residual-in_err-accept_table.result
    c.from_residual-in_err-accept_table.ensures.1 in
    let (used, kinds, refused) = c.in_err-accept_table.ensures.cause in
    rw (p.1, p.2) (tech_refused c.args.bench.now c.args.tech.now c.in_ok-bare.bare
    c.in_ok-bare.ensures.told used kinds _ refused)

pub returns-clause-ok : goal.returns-clause-ok
returns-clause-ok c = record {
  bare = c.in_ok-bare.bare;
  accepts = c.in_ok-bare.ensures.told;
  delays = c.in_ok-accept_table.ensures.ok;
  hosted = c.in_ok-accept_table.ensures.hosted;
}
