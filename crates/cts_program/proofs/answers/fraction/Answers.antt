use Rattle.std.proofs.Common.{◌≡◌, ◌∙◌, subst, sym}
use Rattle.cts_model.specs.Vocabulary.{IsMarginPeriod}
use Rattle.command_line.proofs.PeriodWords.{period_has, period_spelled}
use Rattle.cts_program.proofs.answers.fraction.Goals as goal

pub unreachable-requires : goal.unreachable-requires
unreachable-requires c = period_has (λ period. ⊥) c.args.word.now (λ period num den is.
    let read = c.in-Err.ensures.spelled period num den (c.as_bytes.ensures.value ∙ is) in cc read)
    c.requires

pub returns-clause-within : goal.returns-clause-within
returns-clause-within c =
    let word = c.args.word.now in
    subst IsMarginPeriod
    (sym (period_has (λ other. c.in-Ok.fraction ≡ other) word (λ other num den is.
    let read = c.in-Ok.ensures.spelled other num den (c.as_bytes.ensures.value ∙ is) in cc read)
    c.requires)) (period_spelled word c.requires).within
