use Rattle.cts_program.proofs.Vocabulary.{[], ◌∷◌, refl, err_from_is_err_and, Check, problem_files, request_of}
use Rattle.failure_lines.specs.declared.file_kind.FileKind.TheVariants as kinds
use Rattle.cts_program.proofs.CommandLemmas.{check_fails}
use Rattle.cts_program.proofs.ReadLemmas.{read_more, unread_after}
use Rattle.cts_program.proofs.ResultLemmas.{if_ok_from, if_err_from}
use Rattle.cts_program.proofs.StepLemmas.{step_fails, step_counts, reading_fails, reading_stops, answered}
use Rattle.cts_program.proofs.commands.check_command.Goals as goal

pub returns-in_err-problem : goal.returns-in_err-problem
returns-in_err-problem g c =
    let p = err_from_is_err_and c.from_residual.result c.from_residual.ensures.1 in
    rw (p.1, p.2) (reading_fails (Check c.args.bench c.args.tech c.args.pl
    c.args.report) (λ same. cc same)
    (problem_files c.args.bench.now c.args.tech.now c.args.pl.now)
    ((kinds.Report, c.args.report.now) ∷ []) refl _ c.in_err-problem.ensures)

pub returns-in_err-report : goal.returns-in_err-report
returns-in_err-report g c =
    let p = err_from_is_err_and c.from_residual-in_err-report.result
    c.from_residual-in_err-report.ensures.1 in
    let first = c.in_ok-problem.ensures in
    let last = rw (first.files, step_counts _ first) at c.in_err-report.ensures.step in
    rw (p.1, p.2) (step_fails _ last (λ unread. reading_stops
    (Check c.args.bench c.args.tech c.args.pl c.args.report) (λ same. cc same) _ _ _
    (unread_after (g.I.Inputs.holds c.args.inputs.now)
    first.gives (kinds.Report, c.args.report.now) _ _ [] _ unread)))

pub returns : goal.returns
unfolding request_of
returns g c =
    let first = c.in_ok-problem.ensures in
    let last = rw (first.files, step_counts _ first) at c.in_ok-report.ensures.step in
    let read = read_more (g.I.Inputs.holds c.args.inputs.now) first.gives
    (kinds.Report, c.args.report.now) last.gives in
    answered (Check c.args.bench c.args.tech c.args.pl c.args.report) (λ same. cc same) read
    c.check.result last.files (step_counts _ last)
    (if_ok_from c.check.result _ _ _ c.check.ensures.text c.check.ensures.text
    (λ answer says same many. many)) c.check.ensures.text
    (if_err_from c.check.result _ _ c.check.ensures.cause (check_fails c.in_ok-problem.problem
    c.in_ok-report.report))
