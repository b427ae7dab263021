use Rattle.std.proofs.Common.{◌∙◌, sym}
use Rattle.command_line.proofs.PeriodWords.{read_period, unread_period}
use Rattle.command_line.proofs.plain_words.is_period.Goals as goal

pub returns-in-Err : goal.returns-in-Err
returns-in-Err c = unread_period c.args.word.now (λ period num den is.
    let read = c.in-Err.ensures.spelled period num den (c.as_bytes.ensures.value ∙ is) in cc read)

pub returns-in-Ok : goal.returns-in-Ok
returns-in-Ok c = read_period c.args.word.now c.in-Ok.period c.is_margin_period.result
    (sym c.as_bytes.ensures.value ∙ c.in-Ok.ensures.ok)
    (λ other num den is.
    let read = c.in-Ok.ensures.spelled other num den (c.as_bytes.ensures.value ∙ is) in cc read)
    c.is_margin_period.ensures
