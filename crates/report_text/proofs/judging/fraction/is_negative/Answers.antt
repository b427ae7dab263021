use Rattle.report_text.proofs.Vocabulary.{refl, arith}
use Rattle.report_text.proofs.FractionFlaws.{negative_kept}
use Rattle.report_text.proofs.judging.fraction.is_negative.Goals as goal

pub returns-in-Some : goal.returns-in-Some
returns-in-Some c = search (arith, negative_kept, c.in-Some.ensures.some, c.is_below_zero.ensures)

pub returns-in-None : goal.returns-in-None
returns-in-None c = (
  λ is. cc,
  λ negative. absurd (c.in-None.ensures.none.0 refl negative.0 negative.1 negative.2),
)
