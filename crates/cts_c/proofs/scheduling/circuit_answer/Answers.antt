use Rattle.cts_c.proofs.Vocabulary.{err_from_is_err_and}
use Rattle.answer_texts.proofs.OutcomeTexts.{schedule_says}
use Rattle.cts_c.proofs.RefusalLemmas.{many_pairs}
use Rattle.cts_c.proofs.StatusLemmas.{never_scheduled}
use Rattle.cts_c.proofs.scheduling.circuit_answer.Goals as goal

pub returns-in_err-outcome-clause-cause : goal.returns-in_err-outcome-clause-cause
returns-in_err-outcome-clause-cause c =
    let p = err_from_is_err_and c.from_residual.result c.from_residual.ensures.1 in
    rw (p.1, p.2) (many_pairs c.args.circuit.now _ c.in_err-outcome.ensures.many)

pub returns-clause-answered : goal.returns-clause-answered
returns-clause-answered c = record {
  few = c.in_ok-outcome.ensures.few;
  never = never_scheduled _ c.in_ok-outcome.outcome c.in_ok-answer.ensures.ending
      c.in_ok-outcome.ensures.never;
}

pub returns-clause-text : goal.returns-clause-text
returns-clause-text c =
    schedule_says c.args.circuit.now c.args.tech.now c.in_ok-outcome.outcome
    c.in_ok-outcome.ensures.ok c.in_ok-outcome.ensures.lowest _ _ c.in_ok-answer.ensures.ending
    c.in_ok-answer.ensures.text
