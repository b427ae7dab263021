-- What the walk found in its first lane are the delays between the two registers.
use Rattle.std.proofs.Common.{refl}
use Rattle.path_delays.proofs.ReachedPairs.{captured_is_fan_in}
use Rattle.path_delays.proofs.pair.pair_delay.Goals as goal

pub returns : goal.returns
returns c =
    let circuit = c.args.circuit.now in
    let captured = captured_is_fan_in circuit c.args.to c.register_signal.result.now
    c.register_signal.ensures in
    let reach = c.walk_between.ensures.reach 0 c.args.from c.args.to refl in
    c.joined_pair.ensures circuit c.args.tech.now 0 c.walk_between.new.self _
    (rw c.as_slice-captured.ensures captured) (rw c.as_slice-captured.ensures (λ signal listed.
    reach.each signal (reach.captured signal ((captured signal).0 listed))))
    c.captured_sums.ensures
