use Rattle.cts_c.proofs.Vocabulary.{inl, inr, Ok, Err, refl, ap, ◌∙◌, subst, err_from_is_err_and, one_problem, IsShownReport}
use Rattle.cts_c.proofs.checking.check_texts.Goals as goal

pub returns-in_err-problem-clause-shown : goal.returns-in_err-problem-clause-shown
returns-in_err-problem-clause-shown c problem short tell is =
    let p = err_from_is_err_and c.from_residual.result c.from_residual.ensures.1 in
    inr (p.1 ∙ ap (λ failure. Err failure)
    (p.2 ∙ c.in_err-problem.ensures.accepted problem short tell))

pub returns-in_err-problem-clause-accepted : goal.returns-in_err-problem-clause-accepted
returns-in_err-problem-clause-accepted c problem short tell =
    let p = err_from_is_err_and c.from_residual.result c.from_residual.ensures.1 in
    rw (p.1, p.2) (c.in_err-problem.ensures.accepted problem short tell)

pub returns-in_err-judge-clause-shown : goal.returns-in_err-judge-clause-shown
returns-in_err-judge-clause-shown c problem short tell is =
    let p = err_from_is_err_and c.from_residual-in_err-judge.result
    c.from_residual-in_err-judge.ensures.1 in
    inr (p.1 ∙ ap (λ failure. Err failure) p.2)

pub returns-in_err-judge-clause-cause : goal.returns-in_err-judge-clause-cause
returns-in_err-judge-clause-cause c =
    let p = err_from_is_err_and c.from_residual-in_err-judge.result
    c.from_residual-in_err-judge.ensures.1 in
    rw (p.1, p.2) tt

pub returns-in_err-judge-clause-accepted : goal.returns-in_err-judge-clause-accepted
returns-in_err-judge-clause-accepted c problem short tell =
    let p = err_from_is_err_and c.from_residual-in_err-judge.result
    c.from_residual-in_err-judge.ensures.1 in
    rw (p.1, p.2) refl

pub returns-clause-shown : goal.returns-clause-shown
returns-clause-shown c problem short tell is =
    let same = one_problem c.args.bench.now c.args.tech.now c.args.pl.now problem
    c.in_ok-problem.problem tell c.in_ok-problem.ensures.ok in
    inl (ap (λ judged. Ok judged) (c.in_ok-judge.ensures.shown.1
    (subst (λ problem. IsShownReport problem c.args.report.now) same is)))
