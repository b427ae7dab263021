use Rattle.cts_program.proofs.Vocabulary.{[], ◌∷◌, refl, err_from_is_err_and, problem_files, request_of}
use Rattle.command_line.specs.declared.command.Command.TheVariants.{Moves}
use Rattle.failure_lines.specs.declared.file_kind.FileKind.TheVariants as kinds
use Rattle.cts_program.proofs.ReadLemmas.{read_more, unread_after}
use Rattle.cts_program.proofs.StepLemmas.{step_fails, step_counts, reading_fails, reading_stops, answered_circuit}
use Rattle.cts_program.proofs.commands.moves_command.Goals as goal

pub returns-in_err-problem : goal.returns-in_err-problem
returns-in_err-problem g c =
    let p = err_from_is_err_and c.from_residual.result c.from_residual.ensures.1 in
    rw (p.1, p.2) (reading_fails (Moves c.args.bench c.args.tech c.args.pl c.args.file)
    (λ same. cc same)
    (problem_files c.args.bench.now c.args.tech.now c.args.pl.now)
    ((kinds.Moves, c.args.file.now) ∷ []) refl _ c.in_err-problem.ensures)

pub returns-in_err-list : goal.returns-in_err-list
returns-in_err-list g c =
    let p = err_from_is_err_and c.from_residual-in_err-list.result
    c.from_residual-in_err-list.ensures.1 in
    let first = c.in_ok-problem.ensures in
    let last = rw (first.files, step_counts _ first) at c.in_err-list.ensures.step in
    rw (p.1, p.2) (step_fails _ last (λ unread. reading_stops
    (Moves c.args.bench c.args.tech c.args.pl c.args.file) (λ same. cc same) _ _ _
    (unread_after (g.I.Inputs.holds c.args.inputs.now)
    first.gives (kinds.Moves, c.args.file.now) _ _ [] _ unread)))

pub returns : goal.returns
unfolding request_of
returns g c =
    let first = c.in_ok-problem.ensures in
    let last = rw (first.files, step_counts _ first) at c.in_ok-list.ensures.step in
    let read = read_more (g.I.Inputs.holds c.args.inputs.now) first.gives
    (kinds.Moves, c.args.file.now) last.gives in
    answered_circuit (Moves c.args.bench c.args.tech c.args.pl c.args.file)
    (λ same. cc same) _ c.moves.result read last.files
    (step_counts _ last) refl (λ same. cc same) c.moves.ensures.few c.moves.ensures.text
    c.moves.ensures.cause

pub moves-requires : goal.moves-requires
moves-requires g c = c.in_ok-list.ensures.keeps
