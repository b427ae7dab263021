use Rattle.merge_up.proofs.Vocabulary.{arith, slice_get-get_or, slice_get_within}
use Rattle.merge_up.proofs.WorkLemmas.{begun_next}
use Rattle.merge_up.proofs.bottom_up.set_sinks.Goals as goal

pub loop-register-preserved : goal.loop-register-preserved
loop-register-preserved c =
    let register = c.loop-register.register in
    begun_next c.args.sinks.now register _ c.args.work.now c.loop-register.work c.set_sink.new.self
    (slice_get-get_or c.args.sinks.now register _ c.loop-register-test.true)
    c.loop-register.invariant c.set_sink.ensures

pub returns-clause-sinks : goal.returns-clause-sinks
returns-clause-sinks c register sink here = c.loop-register.invariant.held register sink
    (omega (
      arith,
      c.loop-register-test.false,
      slice_get_within c.args.sinks.now register sink here,
    )) here

pub returns-clause-settled : goal.returns-clause-settled
returns-clause-settled c = c.loop-register.invariant.settled
    (omega (arith, c.loop-register-test.false, c.requires.sinks.some))
