use Rattle.cts_program.proofs.Vocabulary.{[], refl, err_from_is_err_and, Period, circuit_files, request_of}
use Rattle.answer_texts.specs.PeriodTexts.{IsPeriodText}
use Rattle.cts_program.proofs.StepLemmas.{step_counts, reading_fails, answered_circuit, says_timed}
use Rattle.cts_program.proofs.commands.period_command.Goals as goal

pub returns-in_err-read_circuit : goal.returns-in_err-read_circuit
returns-in_err-read_circuit g c =
    let p = err_from_is_err_and c.from_residual.result c.from_residual.ensures.1 in
    rw (p.1, p.2) (reading_fails (Period c.args.bench c.args.tech) (λ same. cc same)
    (circuit_files c.args.bench.now c.args.tech.now) [] refl _ c.in_err-read_circuit.ensures.step)

pub returns : goal.returns
unfolding request_of
returns g c =
    let step = c.in_ok-read_circuit.ensures.step in
    answered_circuit (Period c.args.bench c.args.tech) (λ same. cc same) _ c.period.result
    step.gives step.files (step_counts _ step) refl (λ same. cc same) c.period.ensures.few
    (says_timed IsPeriodText _ _ _ c.period.result refl refl c.period.ensures.text)
    c.period.ensures.cause
