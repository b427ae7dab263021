use Rattle.cts_program.proofs.Vocabulary.{err_from_is_err_and, inl, inr, refl, request_of, placed}
use Rattle.command_line.specs.declared.table.Form.TheVariants as forms
use Rattle.cts_program.proofs.ResultLemmas.{if_ok_from, if_err_from}
use Rattle.cts_program.proofs.StepLemmas.{few_told, circuit_fails}
use Rattle.cts_program.proofs.demo.demo.Goals as goal

pub returns-clause-ok : goal.returns-clause-ok
unfolding request_of
returns-clause-ok c =
    let problem = c.in_ok-problem.problem in
    let told = rw (c.number-registers.ensures, c.number.ensures) at c.in_ok-problem.ensures.ok in
    let text = rw c.number-registers.ensures at c.problem_answer.ensures.text in
    if_ok_from c.problem_answer.result _ _ _ c.problem_answer.ensures.few text
    (λ answer few says. record {
      told = placed problem;
      tells = record { all = refl; tell = told };
      few = few_told forms.Demo (placed problem) problem.circuit refl few;
      says = says;
    })

pub returns-clause-cause : goal.returns-clause-cause
unfolding request_of
returns-clause-cause c =
    let problem = c.in_ok-problem.problem in
    let told = rw (c.number-registers.ensures, c.number.ensures) at c.in_ok-problem.ensures.ok in
    if_err_from c.problem_answer.result _ _ c.problem_answer.ensures.cause
    (λ failure fails. elim (circuit_fails forms.Demo (placed problem) problem.circuit refl
    (λ same. cc same) failure fails) [
      | inl refuses ↦ inl (inr (placed problem, record { all = refl; tell = told }, refuses))
      | inr memory ↦ inr memory
    ])

pub returns-in_err-problem-clause-cause : goal.returns-in_err-problem-clause-cause
unfolding request_of
returns-in_err-problem-clause-cause c =
    let p = err_from_is_err_and c.from_residual.result c.from_residual.ensures.1 in
    let cause = rw (c.number-registers.ensures, c.number.ensures) at c.in_err-problem.ensures.cause
    in
    rw (p.1, p.2) (elim cause [
      | inl first ↦ inl (inl first)
      | inr memory ↦ inr memory
    ])
