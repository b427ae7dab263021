-- The capture of one register more.
use Rattle.path_delays.proofs.Vocabulary.{◌∷◌, [], ◌++◌, get_or, ◌∙◌, ap, take_more}
use Rattle.path_delays.proofs.ReachedPairs.{captured_is_fan_in}
use Rattle.path_delays.proofs.capturing.list_captures.Goals as goal

pub loop-register-preserved : goal.loop-register-preserved
loop-register-preserved c =
    let circuit = c.args.circuit.now in
    let registers = c.args.registers.now in
    let i = c.loop-register.register-index in record {
      registers = rw (take_more registers i 0 c.loop-register-test.true)
          (c.in_ok-push.ensures.register ∙ ap (λ numbers. numbers ++ get_or registers i 0 ∷ [])
          c.loop-register.invariant.registers);
      each = c.in_ok-push.ensures.each circuit (c.requires.within i 0 c.loop-register-test.true)
          (rw c.as_slice-captured.ensures (captured_is_fan_in circuit (get_or registers i 0)
          c.register_signal.result.now c.register_signal.ensures))
          c.loop-register.invariant.each;
    }
