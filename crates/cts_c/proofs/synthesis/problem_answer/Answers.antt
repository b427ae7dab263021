use Rattle.cts_c.proofs.Vocabulary.{err_from_is_err_and}
use Rattle.answer_texts.proofs.OutcomeTexts.{made_with, synth_says}
use Rattle.cts_c.proofs.RefusalLemmas.{many_pairs}
use Rattle.cts_c.proofs.StatusLemmas.{never_built}
use Rattle.cts_c.proofs.synthesis.problem_answer.Goals as goal

pub tree_answer-requires : goal.tree_answer-requires
tree_answer-requires c =
    made_with c.args.problem.now c.in_ok-outcome.outcome c.in_ok-outcome.ensures.ok

pub returns-in_err-outcome-clause-cause : goal.returns-in_err-outcome-clause-cause
returns-in_err-outcome-clause-cause c =
    let p = err_from_is_err_and c.from_residual.result c.from_residual.ensures.1 in
    rw (p.1, p.2) (many_pairs c.args.problem.now.circuit _ c.in_err-outcome.ensures.many)

pub returns-clause-answered : goal.returns-clause-answered
returns-clause-answered c = record {
  few = c.in_ok-outcome.ensures.few;
  never = never_built _ c.in_ok-outcome.outcome c.in_ok-answer.ensures.ending
      c.in_ok-outcome.ensures.never;
}

pub returns-clause-text : goal.returns-clause-text
returns-clause-text c =
    synth_says c.args.problem.now c.in_ok-outcome.outcome c.in_ok-outcome.ensures.ok
    c.in_ok-outcome.ensures.shown c.in_ok-outcome.ensures.lowest _ _ c.in_ok-answer.ensures.ending
    c.in_ok-answer.ensures.text
