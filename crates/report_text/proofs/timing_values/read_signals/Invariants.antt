use Rattle.report_text.proofs.ScanLemmas.{TakesSignals}
use Rattle.report_text.proofs.timing_values.read_signals.Given as goal

-- the signals so far
abbrev pub invariant-loop-place : goal.invariant-loop-place
invariant-loop-place l = TakesSignals l.rules.circuit.now l._place l.signals l.fn.scan l.scan
