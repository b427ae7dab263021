use Rattle.cts_c.proofs.Vocabulary.{inl, ending_status}
use Rattle.cts_c.specs.TextAnswers.{IsTreeAnswer}
use Rattle.cts_c.proofs.StatusLemmas.{handed_text, large_text, has_text, text_status, not_refused}
use Rattle.cts_c.proofs.synthesis.cts_synth.Goals as goal

pub returns-in-Ok-clause-done : goal.returns-in-Ok-clause-done
returns-in-Ok-clause-done c ending =
    handed_text (IsTreeAnswer c.args.bench.now c.args.tech.now c.args.pl.now)
    (ending_status c.in-Ok.answer.ending) c.in-Ok.answer.text.items c.in-Ok.ensures.text _ _ _ _
    (c.hand_over.ensures.handed ending)

pub returns-in-Ok-clause-small : goal.returns-in-Ok-clause-small
returns-in-Ok-clause-small c five =
    large_text (IsTreeAnswer c.args.bench.now c.args.tech.now c.args.pl.now)
    (ending_status c.in-Ok.answer.ending) c.in-Ok.answer.text.items c.in-Ok.ensures.text _ _
    c.hand_over.result _ (c.hand_over.ensures.small five)

pub returns-in-Ok-clause-refused : goal.returns-in-Ok-clause-refused
returns-in-Ok-clause-refused c three =
    absurd (has_text _ c.hand_over.ensures.statuses (inl three))

pub returns-in-Ok-clause-none : goal.returns-in-Ok-clause-none
returns-in-Ok-clause-none c failure = absurd (has_text _ c.hand_over.ensures.statuses failure)

pub returns-in-Ok-clause-long : goal.returns-in-Ok-clause-long
returns-in-Ok-clause-long c long = absurd (long c.in-Ok.ensures.short)

pub returns-in-Ok-clause-statuses : goal.returns-in-Ok-clause-statuses
returns-in-Ok-clause-statuses c = text_status _ c.hand_over.ensures.statuses

pub returns-in-Err-clause-accepted : goal.returns-in-Err-clause-accepted
returns-in-Err-clause-accepted c problem short tell few =
    not_refused _ c.in-Err.failure c.status.ensures.value
    (c.in-Err.ensures.accepted problem short tell few)
