use Rattle.report_text.proofs.Vocabulary.{refl}
use Rattle.report_text.proofs.ScanLemmas.{form_read, takes_then}
use Rattle.report_text.proofs.timing_values.FractionLine.read.Goals as goal

pub returns-clause-read : goal.returns-clause-read
returns-clause-read c =
    let circuit = c.args._rules.now.circuit.now in
    form_read refl (takes_then (c.keyword.ensures circuit) (c.period.ensures circuit))
    (λ are holds. (are, holds.1))
