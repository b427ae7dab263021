use Rattle.cts_program.proofs.Vocabulary.{err_from_is_err_and, [], ◌∷◌, Bench}
use Rattle.failure_lines.specs.declared.file_kind.FileKind.TheVariants.{Tech}
use Rattle.cts_program.proofs.ReadLemmas.{none_read, read_more, unread_after}
use Rattle.cts_program.proofs.StepLemmas.{step_from, step_fails, step_counts}
use Rattle.cts_program.proofs.reading.circuit.read_circuit.Goals as goal

pub returns-in_err-circuit-clause-step : goal.returns-in_err-circuit-clause-step
returns-in_err-circuit-clause-step g c =
    let p = err_from_is_err_and c.from_residual.result c.from_residual.ensures.1 in
    rw (p.1, p.2) (step_fails _ c.in_err-circuit.ensures.step (unread_after
    (g.I.Inputs.holds c.args.inputs.now) (none_read (g.I.Inputs.holds c.args.inputs.now))
    (Bench, c.args.bench.now) _ _ ((Tech, c.args.tech.now) ∷ []) _))

pub returns-clause-step : goal.returns-clause-step
returns-clause-step g c =
    let holds = g.I.Inputs.holds c.args.inputs.now in
    let first = c.in_ok-circuit.ensures.step in
    let read = read_more holds (none_read holds) (Bench, c.args.bench.now) first.gives in
    let last = rw (first.files, step_counts _ first) at c.read_document-2.ensures.step in
    step_from _ last (λ denoted. read_more holds read (Tech, c.args.tech.now))
    (λ failure. unread_after holds read (Tech, c.args.tech.now) _ _ [] failure)
