use Rattle.report_text.proofs.Vocabulary.{subst, arith}
use Rattle.report_text.proofs.ScanLemmas.{TakesSignals, no_signals, signals_next}
use Rattle.report_text.proofs.timing_values.read_signals.Goals as goal

pub loop-place-init : goal.loop-place-init
loop-place-init c = search (arith, TakesSignals, no_signals, c.new-signals.ensures)

pub loop-place-preserved : goal.loop-place-preserved
loop-place-preserved c = search (arith, signals_next, c.in_ok-push.ensures.ok)

pub returns : goal.returns
returns c =
    subst (λ count. TakesSignals c.args.rules.now.circuit.now count c.loop-place.signals
    c.args.scan.now c.loop-place.scan)
    (omega (arith, c.loop-place.auto._place-end, c.loop-place-test.false)) c.loop-place.invariant
