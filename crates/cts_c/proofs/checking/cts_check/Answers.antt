use Rattle.cts_c.proofs.Vocabulary.{inl, inr, refl, ap, ◌∙◌, judged_status}
use Rattle.cts_c.proofs.ResultLemmas.{error_alone, value_alone}
use Rattle.cts_c.proofs.StatusLemmas.{is_judged, free_status, not_refused}
use Rattle.cts_c.proofs.checking.cts_check.Goals as goal

pub returns-in-Ok-clause-shown : goal.returns-in-Ok-clause-shown
returns-in-Ok-clause-shown c problem short tell is =
    inl (c.status.ensures.value ∙ ap judged_status
    (value_alone _ _ _ (c.in-Ok.ensures.shown problem short tell is) _ refl))

pub returns-in-Ok-clause-refused : goal.returns-in-Ok-clause-refused
returns-in-Ok-clause-refused c three =
    absurd (is_judged _ c.status.ensures.kind (inl three))

pub returns-in-Ok-clause-accepted : goal.returns-in-Ok-clause-accepted
returns-in-Ok-clause-accepted c problem short tell three =
    is_judged _ c.status.ensures.kind (inl three)

pub returns-in-Ok-clause-nothing : goal.returns-in-Ok-clause-nothing
returns-in-Ok-clause-nothing c failure = absurd (is_judged _ c.status.ensures.kind failure)

pub returns-in-Ok-clause-long : goal.returns-in-Ok-clause-long
returns-in-Ok-clause-long c long = absurd (long c.in-Ok.ensures.short)

pub returns-in-Ok-clause-statuses : goal.returns-in-Ok-clause-statuses
returns-in-Ok-clause-statuses c = inl c.status.ensures.kind

pub returns-in-Err-clause-shown : goal.returns-in-Err-clause-shown
returns-in-Err-clause-shown c problem short tell is =
    inr (free_status _ c.in-Err.failure c.status-in-Err.ensures.value
    (error_alone _ _ _ (c.in-Err.ensures.shown problem short tell is) _ refl))

pub returns-in-Err-clause-accepted : goal.returns-in-Err-clause-accepted
returns-in-Err-clause-accepted c problem short tell =
    not_refused _ c.in-Err.failure c.status-in-Err.ensures.value
    (c.in-Err.ensures.accepted problem short tell)
