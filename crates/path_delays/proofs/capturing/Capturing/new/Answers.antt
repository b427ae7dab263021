-- The room is that of the circuit.
use Rattle.std.proofs.Common.{arith}
use Rattle.path_delays.proofs.CapturingLemmas.{capturing_made}
use Rattle.path_delays.proofs.capturing.Capturing.new.Goals as goal

pub returns : goal.returns
returns c =
    capturing_made c.args.circuit.now _ c.in_ok-capturers.ensures c.in_ok-captured.ensures
    c.in_ok-reached.ensures (omega (arith, c.in_ok-found.ensures.room, c.len.ensures))
    (omega (arith, c.in_ok-found.ensures.small, c.len.ensures))
