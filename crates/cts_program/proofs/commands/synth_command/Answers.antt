use Rattle.cts_program.proofs.Vocabulary.{[], refl, err_from_is_err_and, Synth, problem_files, request_of}
use Rattle.cts_program.proofs.StepLemmas.{step_counts, reading_fails, answered_circuit}
use Rattle.cts_program.proofs.commands.synth_command.Goals as goal

pub returns-in_err-read_problem : goal.returns-in_err-read_problem
returns-in_err-read_problem g c =
    let p = err_from_is_err_and c.from_residual.result c.from_residual.ensures.1 in
    rw (p.1, p.2) (reading_fails (Synth c.args.bench c.args.tech c.args.pl)
    (λ same. cc same)
    (problem_files c.args.bench.now c.args.tech.now c.args.pl.now) [] refl _
    c.in_err-read_problem.ensures)

pub returns : goal.returns
unfolding request_of
returns g c =
    let step = c.in_ok-read_problem.ensures in
    answered_circuit (Synth c.args.bench c.args.tech c.args.pl) (λ same. cc same) _ c.synth.result
    step.gives step.files (step_counts _ step) refl (λ same. cc same) c.synth.ensures.few
    c.synth.ensures.text c.synth.ensures.cause
