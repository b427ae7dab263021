-- From nothing to what is launched, over all gates, to what is captured.
use Rattle.path_delays.proofs.Vocabulary.{rules, ◌≡◌, None, length, replicate, IfOk-weaker, AreWindows, AreCaptures}
use Rattle.path_delays.proofs.SweepLemmas.{launched_none, windows_are}
use Rattle.path_delays.proofs.sweep.arrivals.Goals as goal

pub returns : goal.returns
returns c =
    let circuit = c.args.circuit.now in
    IfOk-weaker c.captured_windows.result
    (AreCaptures circuit c.as_slice-2.result.now (length circuit.registers))
    (AreWindows circuit c.args.tech.now c.args.schedule.now)
    (λ captured are. windows_are circuit c.args.tech.now c.args.schedule.now c.args.levels.now
    c.as_slice-2.result.now captured c.requires.levels
    (rw c.as_slice-2.ensures.value c.pass_gates.ensures) are)
    c.captured_windows.ensures

pub loop-from-init : goal.loop-from-init
loop-from-init c =
    let none : c.in_ok-windows.windows.items ≡ replicate c.len.result None = search rules in
    let covers : c.len.result ≡ length c.args.circuit.now.signals = search rules in
    rw none (launched_none c.args.circuit.now c.args.tech.now c.args.schedule.now c.len.result
    covers)
