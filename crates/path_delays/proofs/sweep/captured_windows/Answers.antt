-- One register more.
use Rattle.path_delays.proofs.Vocabulary.{Contains, option_map, Captures, StandsAt, sums_in, sums_of}
use Rattle.path_delays.proofs.CarryLemmas.{extremes_same}
use Rattle.path_delays.proofs.ReachedPairs.{captured_is_fan_in}
use Rattle.path_delays.proofs.WindowLemmas.{captures_next}
use Rattle.path_delays.proofs.sweep.captured_windows.Goals as goal

pub loop-register-preserved : goal.loop-register-preserved
loop-register-preserved c =
    let circuit = c.args.circuit.now in
    let windows = c.args.windows.now in
    let register = c.loop-register.register in
    let signal = c.register_signal.result.now in
    let exact = captured_is_fan_in circuit register signal c.register_signal.ensures in
    rw c.in_ok-push.ensures.items
    (captures_next circuit windows c.loop-register.captured.items register c.merged_windows.result
    (extremes_same (StandsAt (sums_in windows) (Contains signal.fan_in))
    (StandsAt (sums_in windows) (Captures circuit register))
    (option_map sums_of c.merged_windows.result)
    (λ one (number, listed, here). (number, (exact number).0 listed, here))
    (λ one (number, captures, here). (number, (exact number).1 captures, here))
    (rw c.as_slice-signals.ensures at c.merged_windows.ensures))
    c.loop-register.invariant)
