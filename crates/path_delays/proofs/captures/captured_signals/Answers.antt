-- One register more.
use Rattle.path_delays.proofs.Vocabulary.{arith, subst, AreCapturedBelow}
use Rattle.path_delays.proofs.ReachedPairs.{captured_is_fan_in, captured_within}
use Rattle.path_delays.proofs.CaptureLemmas.{none_captured, captured_more}
use Rattle.path_delays.proofs.captures.captured_signals.Goals as goal

pub loop-register-init : goal.loop-register-init
loop-register-init c = grind (arith, none_captured)

pub insert_all-requires : goal.insert_all-requires
insert_all-requires c = grind (arith, captured_within)

pub loop-register-preserved : goal.loop-register-preserved
loop-register-preserved c = grind (arith, captured_more, captured_is_fan_in, captured_within)

pub returns : goal.returns
returns c = subst (λ n. AreCapturedBelow c.args.circuit.now n c.loop-register.signals.words.items)
    (omega (arith, c.len-register-end.ensures)) c.loop-register.invariant
