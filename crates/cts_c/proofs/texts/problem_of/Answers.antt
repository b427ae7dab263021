use Rattle.cts_c.proofs.Vocabulary.{refl, ap, err_from_is_err_and, refusal_failure}
use Rattle.cts_c.proofs.ResultLemmas.{error_alone}
use Rattle.cts_c.proofs.texts.problem_of.Goals as goal

pub returns-in_err-accept-clause-accepted : goal.returns-in_err-accept-clause-accepted
returns-in_err-accept-clause-accepted c problem short tell =
    let p = err_from_is_err_and c.from_residual.result c.from_residual.ensures.1 in
    rw (p.1, p.2) (ap refusal_failure
    (error_alone _ problem _ (c.in_err-accept.ensures.accepted problem tell) _ refl))
