use Rattle.report_text.proofs.Vocabulary.{arith}
use Rattle.report_text.proofs.FractionFlaws.{read_quotient_is}
use Rattle.report_text.proofs.judging.fraction.fraction_of.Goals as goal

pub returns-in-Ok-clause-spelled : goal.returns-in-Ok-clause-spelled
returns-in-Ok-clause-spelled c =
    search (arith, read_quotient_is, c.in-Ok.ensures.small, c.in-Ok.ensures.ok)
