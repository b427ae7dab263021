use Rattle.report_text.proofs.Vocabulary.{◌≡◌, ◌<◌, ◌-◌, false, length, sym, ap, ◌∙◌, subst, arith, All-nil, DenotesPath}
use Rattle.report_text.proofs.ScanLemmas.{form_read, takes_then, path_read}
use Rattle.report_text.proofs.TimingLines.{way_fields}
use Rattle.report_text.proofs.timing_values.path_of.Goals as goal

pub returns-then-not-is_printed : goal.returns-then-not-is_printed
returns-then-not-is_printed c =
    let circuit = c.args.rules.now.circuit.now in
    form_read (ap (λ dash. way_fields dash (length c.args.scan.now.words - 2))
    (sym c.has_word-is_printed.ensures ∙ c.if-not-is_printed.true))
    (takes_then (c.keyword.ensures circuit) (c.keyword-then-not-is_printed.ensures circuit))
    (λ are _. subst (DenotesPath circuit c.args.scan.now.words) (sym c.new.ensures) (record {
      line = are;
      signals = All-nil (λ number. number < length circuit.signals);
      few = omega arith;
    }))

pub returns : goal.returns
returns c =
    let circuit = c.args.rules.now.circuit.now in
    let count : length c.args.scan.now.words - 2 ≡ c.saturating_sub-count.result =
    omega (arith, c.len.ensures, c.saturating_sub-count.ensures) in
    form_read (ap (λ dash. way_fields dash (length c.args.scan.now.words - 2))
    (sym c.has_word-is_printed.ensures ∙ c.if-not-is_printed.false) ∙ ap (λ n. way_fields false n)
    count) (takes_then (c.keyword.ensures circuit) (takes_then (c.counted.ensures circuit)
    c.in_ok-signals.ensures.1)) (λ are holds. path_read _ _ c.in_ok-signals.ensures.0 holds.1.0.0
    holds.1.0.1 holds.1.1 are)
