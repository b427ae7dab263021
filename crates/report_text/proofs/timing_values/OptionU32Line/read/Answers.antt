use Rattle.report_text.proofs.Vocabulary.{sym, ap, ◌∙◌}
use Rattle.report_text.proofs.ScanLemmas.{form_read, takes_then}
use Rattle.report_text.proofs.TimingLines.{shown_fields}
use Rattle.report_text.proofs.timing_values.OptionU32Line.read.Goals as goal

pub returns-then-has_word-clause-read : goal.returns-then-has_word-clause-read
returns-then-has_word-clause-read c =
    form_read (ap shown_fields (sym c.has_word.ensures ∙ c.if-has_word.true))
    (c.keyword.ensures c.args._rules.now.circuit.now) (λ are _. (are, tt))

pub returns-clause-read : goal.returns-clause-read
returns-clause-read c =
    let circuit = c.args._rules.now.circuit.now in
    form_read (ap shown_fields (sym c.has_word.ensures ∙ c.if-has_word.false))
    (takes_then (c.keyword-2.ensures circuit) (c.number-count.ensures circuit))
    (λ are holds. (are, (holds.1.0, holds.1.1)))
