use Rattle.path_delays.proofs.ReachedPairs.{captured_is_fan_in, captured_within}
use Rattle.path_delays.proofs.CaptureLemmas.{few_captured, captures_more}
use Rattle.path_delays.proofs.captures.captures.Goals as goal

pub loop-register-preserved : goal.loop-register-preserved
loop-register-preserved c =
    let circuit = c.args.circuit.now in
    let signal = c.register_signal.result.now in
    rw (c.in_ok-push_captured.ensures, c.as_slice-captured.ensures)
    (captures_more circuit c.loop-register.register c.loop-register.pairs.items signal.fan_in
    (captured_is_fan_in circuit c.loop-register.register signal c.register_signal.ensures)
    (captured_within circuit c.loop-register.register signal c.register_signal.ensures)
    (few_captured circuit c.loop-register.register signal c.register_signal.ensures)
    c.loop-register.invariant)
