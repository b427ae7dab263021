use Rattle.report_text.proofs.Vocabulary.{◌≡◌, pos, refl, arith, ints}
use Rattle.report_text.proofs.NumberWords.{whole_read}
use Rattle.report_text.proofs.SpelledFields.{small_number}
use Rattle.report_text.proofs.judging.is_number.Goals as goal

pub returns-in-Some-clause-text : goal.returns-in-Some-clause-text
returns-in-Some-clause-text c is =
    let (value, spells, kept) = c.in-Some.ensures.some in
    let same : pos c.args.number ≡ c.in-Some.value = grind (arith, ints) in
    whole_read _ _ _ _ spells kept same (small_number _ (omega arith))

pub returns-in-None-clause-spells : goal.returns-in-None-clause-spells
returns-in-None-clause-spells c = (
  λ is. cc,
  λ spells. absurd (c.in-None.ensures.none.0 refl (pos c.args.number) spells),
)
