use Rattle.report_text.proofs.Vocabulary.{refl}
use Rattle.report_text.proofs.ScanLemmas.{form_read}
use Rattle.report_text.proofs.timing_values.ConstraintLine.read.Goals as goal

pub returns-clause-read : goal.returns-clause-read
returns-clause-read c =
    form_read refl c.read_constraint.ensures
    (λ are holds. record { line = are; registers = holds.0; weight = holds.1 })
