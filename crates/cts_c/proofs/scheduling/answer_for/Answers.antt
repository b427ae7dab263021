use Rattle.cts_c.proofs.Vocabulary.{inr, subst, IfErr-weaker, IfOk-weaker, err_from_is_err_and, JoinsMoreThan, one_both}
use Rattle.cts_c.proofs.ResultLemmas.{both_ok}
use Rattle.cts_c.proofs.RefusalLemmas.{fails_alone, fails_for}
use Rattle.cts_c.proofs.scheduling.answer_for.Goals as goal

pub returns-in_err-denoted-clause-accepted : goal.returns-in_err-denoted-clause-accepted
returns-in_err-denoted-clause-accepted c circuit delays short tell few =
    let p = err_from_is_err_and c.from_residual.result c.from_residual.ensures.1 in
    rw (p.1, p.2) (c.in_err-denoted.ensures.accepted circuit delays short tell)

pub returns-clause-text : goal.returns-clause-text
returns-clause-text c =
    let denoted = c.in_ok-denoted.denoted in
    both_ok c.circuit_answer.result _ _ _ (λ answer answered is. record {
      circuit = denoted.circuit;
      delays = denoted.tech;
      tell = c.in_ok-denoted.ensures.ok;
      answered = answered;
      is = is;
    }) c.circuit_answer.ensures.answered c.circuit_answer.ensures.text

pub returns-clause-short : goal.returns-clause-short
returns-clause-short c = IfOk-weaker c.circuit_answer.result _ _
    (λ answer is. c.in_ok-denoted.ensures.short) c.circuit_answer.ensures.text

pub returns-clause-cause : goal.returns-clause-cause
returns-clause-cause c =
    let denoted = c.in_ok-denoted.denoted in
    IfErr-weaker c.circuit_answer.result _ _ (λ failure. fails_for failure _
    (λ many. inr (denoted.circuit, (denoted.tech, c.in_ok-denoted.ensures.ok, many))))
    c.circuit_answer.ensures.cause

pub returns-clause-accepted : goal.returns-clause-accepted
returns-clause-accepted c circuit delays short tell few =
    let denoted = c.in_ok-denoted.denoted in
    let same = one_both c.args.bench.now c.args.tech.now denoted.circuit circuit denoted.tech delays
    c.in_ok-denoted.ensures.ok tell in
    IfErr-weaker c.circuit_answer.result _ _ (λ failure. fails_alone failure
    (λ many. few (subst (λ circuit. JoinsMoreThan circuit 1048576) same.0 many)))
    c.circuit_answer.ensures.cause
