use Rattle.cts_program.proofs.Vocabulary.{map, string_bytes, ap, refl, Err, err_from_is_err_and, request_of, stops}
use Rattle.cts_program.proofs.RunLemmas.{no_usage, words_fail}
use Rattle.cts_program.proofs.run.write_answer.Goals as goal

pub command_answer-requires-clause-values : goal.command_answer-requires-clause-values
command_answer-requires-clause-values g c = c.in_ok-command.ensures.ok.values

pub command_answer-requires-clause-tables : goal.command_answer-requires-clause-tables
command_answer-requires-clause-tables g c = c.in_ok-command.ensures.ok.tables

pub returns-in_err-command-clause-cause : goal.returns-in_err-command-clause-cause
returns-in_err-command-clause-cause g c =
    let p = err_from_is_err_and c.from_residual.result c.from_residual.ensures.1 in
    rw (p.1, p.2) (words_fail (map string_bytes c.args.words.now)
    (g.I.Inputs.holds c.args.inputs.now) _ _ _ _ _ _ c.in_err-command.field-0.0
    (λ e. c.in_err-command.ensures.usage (ap (λ fault. Err fault) e))
    (λ e. c.in_err-command.ensures.memory (ap (λ fault. Err fault) e)))

pub returns-in_err-answer-clause-cause : goal.returns-in_err-answer-clause-cause
returns-in_err-answer-clause-cause g c =
    let p = err_from_is_err_and c.from_residual-in_err-answer.result
    c.from_residual-in_err-answer.ensures.1 in
    rw (p.1, p.2) (stops (request_of c.in_ok-command.command) (record {
      command = c.in_ok-command.command;
      means = c.in_ok-command.ensures.ok;
      asks = refl;
    }) c.in_err-answer.ensures.fails)

pub returns-in_err-answer-clause-untouched : goal.returns-in_err-answer-clause-untouched
returns-in_err-answer-clause-untouched g c =
    let p = err_from_is_err_and c.from_residual-in_err-answer.result
    c.from_residual-in_err-answer.ensures.1 in
    rw (p.1, p.2) (λ same. absurd (no_usage (g.I.Inputs.holds c.args.inputs.now) _ _
    (request_of c.in_ok-command.command) _ c.in_err-answer.ensures.fails (cc same)))
