-- One register more, and all of them.
use Rattle.path_delays.proofs.Vocabulary.{arith, cases_lt}
use Rattle.path_delays.proofs.CaptureLemmas.{capture_within}
use Rattle.path_delays.proofs.ReachedPairs.{captured_is_fan_in}
use Rattle.path_delays.proofs.network.Network.captured_top.Goals as goal

pub loop-register-preserved : goal.loop-register-preserved
loop-register-preserved c = grind (arith, cases_lt, captured_is_fan_in)

pub returns : goal.returns
returns c register signal captured = c.loop-register.invariant register
    (omega (
      arith,
      (capture_within c.args.circuit.now register signal captured).0,
      c.len-register-end.ensures,
      c.loop-register-test.false,
    ))
    signal captured
