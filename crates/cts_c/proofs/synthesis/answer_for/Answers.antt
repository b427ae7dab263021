use Rattle.cts_c.proofs.Vocabulary.{inr, subst, IfErr-weaker, IfOk-weaker, err_from_is_err_and, JoinsMoreThan, one_problem}
use Rattle.cts_model.specs.declared.problem.Problem.{Problem}
use Rattle.cts_c.proofs.ResultLemmas.{both_ok}
use Rattle.cts_c.proofs.RefusalLemmas.{fails_alone, fails_for}
use Rattle.cts_c.proofs.synthesis.answer_for.Goals as goal

pub returns-in_err-problem-clause-accepted : goal.returns-in_err-problem-clause-accepted
returns-in_err-problem-clause-accepted c problem short tell few =
    let p = err_from_is_err_and c.from_residual.result c.from_residual.ensures.1 in
    rw (p.1, p.2) (c.in_err-problem.ensures.accepted problem short tell)

pub returns-clause-text : goal.returns-clause-text
returns-clause-text c = both_ok c.problem_answer.result _ _ _ (λ answer answered is. record {
  problem = c.in_ok-problem.problem;
  tell = c.in_ok-problem.ensures.ok;
  answered = answered;
  is = is;
}) c.problem_answer.ensures.answered c.problem_answer.ensures.text

pub returns-clause-short : goal.returns-clause-short
returns-clause-short c = IfOk-weaker c.problem_answer.result _ _
    (λ answer is. c.in_ok-problem.ensures.short) c.problem_answer.ensures.text

pub returns-clause-cause : goal.returns-clause-cause
returns-clause-cause c = IfErr-weaker c.problem_answer.result _ _ (λ failure. fails_for failure _
    (λ many. inr (c.in_ok-problem.problem, c.in_ok-problem.ensures.ok, many)))
    c.problem_answer.ensures.cause

pub returns-clause-accepted : goal.returns-clause-accepted
returns-clause-accepted c problem short tell few =
    let same = one_problem c.args.bench.now c.args.tech.now c.args.pl.now c.in_ok-problem.problem
    problem c.in_ok-problem.ensures.ok tell in
    IfErr-weaker c.problem_answer.result _ _ (λ failure. fails_alone failure
    (λ many. few (subst (λ (p : Problem). JoinsMoreThan p.circuit 1048576) same many)))
    c.problem_answer.ensures.cause
