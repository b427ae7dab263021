use Rattle.cts_program.proofs.Vocabulary.{[], None, Some, refl, err_from_is_err_and, Zero, Bench, circuit_files, request_of}
use Rattle.answer_texts.specs.ZeroTexts.{IsZeroText}
use Rattle.cts_program.proofs.ReadLemmas.{none_read, read_more, unread_after}
use Rattle.cts_program.proofs.StepLemmas.{step_fails, step_counts, reading_fails, reading_stops, answered_circuit, says_done}
use Rattle.cts_program.proofs.commands.zero_command.Goals as goal

pub returns-in_err-circuit-in-None : goal.returns-in_err-circuit-in-None
returns-in_err-circuit-in-None g c =
    let holds = g.I.Inputs.holds c.args.inputs.now in
    let p = err_from_is_err_and c.from_residual.result c.from_residual.ensures.1 in
    rw (p.1, p.2, c.in-None.is) (step_fails _ c.in_err-circuit-in-None.ensures.step (λ unread.
    reading_stops (Zero c.args.bench None) (λ same. cc same) _ _ _
    (unread_after holds (none_read holds) (Bench, c.args.bench.now) _ _ [] _ unread)))

pub returns-in_ok-circuit-in-None : goal.returns-in_ok-circuit-in-None
unfolding request_of
returns-in_ok-circuit-in-None g c =
    let holds = g.I.Inputs.holds c.args.inputs.now in
    let step = c.in_ok-circuit-in-None.ensures.step in
    let read = read_more holds (none_read holds) (Bench, c.args.bench.now) step.gives in
    rw c.in-None.is (answered_circuit (Zero c.args.bench None)
    (λ same. cc same) _ c.zero.result read step.files (step_counts _ step) refl
    (λ same. cc same) c.zero.ensures.few
    (says_done IsZeroText _ _ _ c.zero.result refl c.plain-tech.ensures c.zero.ensures.text)
    c.zero.ensures.cause)

pub returns-in_err-read_circuit-in-Some : goal.returns-in_err-read_circuit-in-Some
returns-in_err-read_circuit-in-Some g c =
    let p = err_from_is_err_and c.from_residual-in_err-read_circuit-in-Some.result
    c.from_residual-in_err-read_circuit-in-Some.ensures.1 in
    rw (p.1, p.2, c.in-Some.is) (reading_fails (Zero c.args.bench
    (Some c.in-Some.tech))
    (λ same. cc same) (circuit_files c.args.bench.now c.in-Some.tech.now) [] refl _
    c.in_err-read_circuit-in-Some.ensures.step)

pub returns-in_ok-read_circuit-in-Some : goal.returns-in_ok-read_circuit-in-Some
unfolding request_of
returns-in_ok-read_circuit-in-Some g c =
    let step = c.in_ok-read_circuit-in-Some.ensures.step in
    rw c.in-Some.is (answered_circuit (Zero c.args.bench (Some c.in-Some.tech))
    (λ same. cc same) _ c.zero-in-Some.result step.gives step.files
    (step_counts _ step) refl (λ same. cc same) c.zero-in-Some.ensures.few
    (says_done IsZeroText _ _ _ c.zero-in-Some.result refl refl c.zero-in-Some.ensures.text)
    c.zero-in-Some.ensures.cause)
