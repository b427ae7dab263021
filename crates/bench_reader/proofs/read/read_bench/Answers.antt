use Rattle.bench_reader.proofs.Vocabulary.{sym, subst, All, ◌<◌, inl, inr, length, err_from_is_err_and}
use Rattle.bench_reader.proofs.DenotedCircuits.{denoted_hostless}
use Rattle.bench_reader.proofs.LoopSignals.{loop_within}
use Rattle.bench_reader.proofs.read.read_bench.Goals as goal

pub returns-in_err-circuit-clause-told : goal.returns-in_err-circuit-clause-told
returns-in_err-circuit-clause-told c =
    let p = err_from_is_err_and c.from_residual.result c.from_residual.ensures.1 in
    rw (p.1, p.2) (elim c.in_err-circuit.ensures.refused [
      | inl found ↦ inl (inl found)
      | inr memory ↦ inr memory
    ])

pub returns-in-Ok-clause-hostless : goal.returns-in-Ok-clause-hostless
returns-in-Ok-clause-hostless c =
    denoted_hostless c.args.bytes.now c.in_ok-circuit.circuit c.in_ok-circuit.ensures.denoted

pub signal_names-requires : goal.signal_names-requires
signal_names-requires c =
    let named = rw c.in-Err-Loop.field-0-is at c.in-Err-Loop.ensures.looped in
    subst (All (λ number. number < length c.in_ok-circuit.circuit.signals)) (sym c.as_slice.ensures)
    (loop_within c.in_ok-circuit.circuit.signals _ named.ring)
