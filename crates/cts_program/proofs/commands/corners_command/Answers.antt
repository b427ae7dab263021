use Rattle.cts_program.proofs.Vocabulary.{[], sym, append-nil, arith, err_from_is_err_and, Corners, files_of, request_of}
use Rattle.cts_program.proofs.ResultLemmas.{if_ok_from}
use Rattle.cts_program.proofs.StepLemmas.{step_counts, reading_fails, answered_circuit}
use Rattle.cts_program.proofs.commands.corners_command.Goals as goal

pub returns-in_err-read_corners : goal.returns-in_err-read_corners
returns-in_err-read_corners g c =
    let p = err_from_is_err_and c.from_residual.result c.from_residual.ensures.1 in
    rw (p.1, p.2) (reading_fails (Corners c.args.bench c.args.tables)
    (λ same. cc same) (files_of (Corners c.args.bench c.args.tables)) []
    (sym (append-nil _)) _ c.in_err-read_corners.ensures.step)

pub returns : goal.returns
unfolding request_of
returns g c =
    let step = c.in_ok-read_corners.ensures.step in
    let told = step.gives in
    answered_circuit (Corners c.args.bench c.args.tables) (λ same. cc same)
    _ c.corners.result told.read step.files (step_counts _ step) told.tells (λ same. cc same)
    c.corners.ensures.few
    (if_ok_from c.corners.result _ _ _ c.corners.ensures.text
    c.corners.ensures.text (λ answer says same. (_, told.tells, says)))
    c.corners.ensures.cause

pub corners-requires-clause-some : goal.corners-requires-clause-some
corners-requires-clause-some g c =
    omega (arith, c.requires.some, c.in_ok-read_corners.ensures.count)

pub corners-requires-clause-corners : goal.corners-requires-clause-corners
corners-requires-clause-corners g c =
    omega (arith, c.requires.few, c.in_ok-read_corners.ensures.count)
