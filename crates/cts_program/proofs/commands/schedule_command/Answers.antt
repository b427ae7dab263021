use Rattle.cts_program.proofs.Vocabulary.{[], refl, err_from_is_err_and, circuit_files, request_of}
use Rattle.command_line.specs.declared.command.Command.TheVariants.{Schedule}
use Rattle.answer_texts.specs.ScheduleTexts.{IsScheduleText}
use Rattle.cts_program.proofs.StepLemmas.{step_counts, reading_fails, answered_circuit, says_timed}
use Rattle.cts_program.proofs.commands.schedule_command.Goals as goal

pub returns-in_err-read_circuit : goal.returns-in_err-read_circuit
returns-in_err-read_circuit g c =
    let p = err_from_is_err_and c.from_residual.result c.from_residual.ensures.1 in
    rw (p.1, p.2) (reading_fails (Schedule c.args.bench c.args.tech) (λ same. cc same)
    (circuit_files c.args.bench.now c.args.tech.now) [] refl _ c.in_err-read_circuit.ensures.step)

pub returns : goal.returns
unfolding request_of
returns g c =
    let step = c.in_ok-read_circuit.ensures.step in
    answered_circuit (Schedule c.args.bench c.args.tech) (λ same. cc same) _ c.schedule.result
    step.gives step.files (step_counts _ step) refl (λ same. cc same) c.schedule.ensures.few
    (says_timed IsScheduleText _ _ _ c.schedule.result refl refl c.schedule.ensures.text)
    c.schedule.ensures.cause
