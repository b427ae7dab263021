use Rattle.cts_program.proofs.Vocabulary.{err_from_is_err_and, [], ◌∷◌, Placement, circuit_files}
use Rattle.cts_program.proofs.ReadLemmas.{read_more, unread_after, unread_before}
use Rattle.cts_program.proofs.StepLemmas.{step_from, step_fails, step_counts}
use Rattle.cts_program.proofs.reading.problem.read_problem.Goals as goal

pub returns-in_err-denoted : goal.returns-in_err-denoted
returns-in_err-denoted g c =
    let p = err_from_is_err_and c.from_residual.result c.from_residual.ensures.1 in
    rw (p.1, p.2) (step_fails _ c.in_err-denoted.ensures.step (unread_before
    (g.I.Inputs.holds c.args.inputs.now) _ _ (circuit_files c.args.bench.now c.args.tech.now)
    ((Placement, c.args.pl.now) ∷ []) _))

pub returns : goal.returns
returns g c =
    let holds = g.I.Inputs.holds c.args.inputs.now in
    let first = c.in_ok-denoted.ensures.step in
    let last = rw (first.files, step_counts _ first) at c.read_document.ensures.step in
    step_from _ last (λ problem. read_more holds first.gives (Placement, c.args.pl.now))
    (λ failure. unread_after holds first.gives (Placement, c.args.pl.now) _ _ [] failure)
