-- One signal more.
use Rattle.path_delays.proofs.Vocabulary.{◌≡◌, length, refl, arith, slice_get_read}
use Rattle.path_delays.proofs.LaunchLemmas.{inputs_none, inputs_next, inputs_all}
use Rattle.path_delays.proofs.launching.input_signals.Goals as goal

pub loop-number-init : goal.loop-number-init
loop-number-init c = rw c.new-inputs.ensures.items (inputs_none c.args.circuit.now)

pub loop-number-preserved : goal.loop-number-preserved
loop-number-preserved c =
    let signals = c.args.circuit.now.signals in
    let signal = c.signal-item.result in
    rw c.in_ok-push_input.ensures
    (inputs_next c.args.circuit.now c.loop-number.number c.loop-number.inputs.items signal
    (slice_get_read signals (length signals) c.loop-number.number signal refl
    (rw c.as_slice-signal-items.ensures at c.loop-number-test.true)
    (rw c.as_slice-signal-items.ensures at c.signal-item.is)) c.loop-number.invariant)

pub returns : goal.returns
returns c =
    let all : c.loop-number.number ≡ length c.as_slice-signal-items.result.now = omega arith in
    inputs_all c.args.circuit.now c.loop-number.inputs.items
    (rw (all, c.as_slice-signal-items.ensures) at c.loop-number.invariant)
