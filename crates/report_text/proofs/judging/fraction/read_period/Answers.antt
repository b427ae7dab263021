use Rattle.report_text.proofs.Vocabulary.{refl, WordHasFlaw, Period, arith}
use Rattle.report_text.proofs.FractionFlaws.{from_zero, negative_refused, passed_flaw, period_past, period_refused, period_within}
use Rattle.report_text.proofs.judging.fraction.read_period.Goals as goal

pub returns-then-is_negative-clause-flaw : goal.returns-then-is_negative-clause-flaw
returns-then-is_negative-clause-flaw c circuit =
    negative_refused c.args.word.now (c.if-is_negative.ensures.0 refl)

pub returns-in_err-period-clause-flaw : goal.returns-in_err-period-clause-flaw
returns-in_err-period-clause-flaw c circuit =
    let word = c.args.word.now in
    passed_flaw _ _ (WordHasFlaw circuit Period word) c.from_residual.ensures.1 (period_refused
    _ _ c.in_err-period.ensures.refused (λ negative. let bad = c.if-is_negative.ensures.1
    negative in cc) circuit)

pub returns-then-not-is_small_period-clause-flaw : goal.returns-then-not-is_small_period-clause-flaw
returns-then-not-is_small_period-clause-flaw c circuit =
    let period = c.in_ok-period.period in
    let spells = c.in_ok-period.ensures.spelled.0 in
    let some = from_zero _ _ _ spells
    (λ negative. let bad = c.if-is_negative.ensures.1 negative in cc) in
    period_past _ _ _ spells circuit period.lowest some (λ within.
    let bad = c.if-not-is_small_period.ensures.1 within in cc)

pub returns-clause-flaw : goal.returns-clause-flaw
returns-clause-flaw c circuit =
    let period = c.in_ok-period.period in
    let spells = c.in_ok-period.ensures.spelled.0 in
    let some = from_zero _ _ _ spells
    (λ negative. let bad = c.if-is_negative.ensures.1 negative in cc) in
    period_within _ _ _ spells circuit period.lowest some (c.if-not-is_small_period.ensures.0 refl)

pub returns-clause-value : goal.returns-clause-value
returns-clause-value c = search (arith, from_zero)
