use Rattle.report_text.proofs.Vocabulary.{sym, ap, ◌∙◌}
use Rattle.report_text.proofs.ScanLemmas.{form_read, takes_then}
use Rattle.report_text.proofs.TimingLines.{led_fields}
use Rattle.report_text.proofs.timing_values.LeadLine.read.Goals as goal

pub returns-then-is_first-clause-read : goal.returns-then-is_first-clause-read
returns-then-is_first-clause-read c =
    let circuit = c.args.rules.now.circuit.now in
    form_read (ap led_fields (sym c.has_word-is_first.ensures ∙ c.if-is_first.true))
    (takes_then (c.keyword.ensures circuit) (c.keyword-then-is_first.ensures circuit))
    (λ are _. record { line = are; registers = tt; small = tt })

pub returns-clause-read : goal.returns-clause-read
returns-clause-read c =
    let circuit = c.args.rules.now.circuit.now in
    form_read (ap led_fields (sym c.has_word-is_first.ensures ∙ c.if-is_first.false))
    (takes_then (c.keyword.ensures circuit) (takes_then (c.number-depth.ensures circuit)
    c.read_constraint-constraint.ensures))
    (λ are holds. record {
      line = are;
      registers = holds.1.1.0;
      small = (holds.1.0.0, holds.1.0.1, holds.1.1.1);
    })
