-- One arrival more.
use Rattle.timing_tests.proofs.Vocabulary.{◌^◌, arith, length_push, All-push, IsBelow}
use Rattle.path_delays.proofs.WindowLemmas.{kept_time}
use Rattle.timing_tests.proofs.arrival_tests.schedule_of.Goals as goal

pub loop-arrival-preserved : goal.loop-arrival-preserved
loop-arrival-preserved g c =
    let pushed = rw c.made.ensures at c.push.ensures.items in
    rw (pushed, kept_time c.widened.result c.widened.ensures (omega arith)) (
      All-push (IsBelow (10 ^ 19)) c.loop-arrival.at.items c.widened.result
          c.loop-arrival.invariant.0 c.widened.ensures,
      omega (
        arith,
        length_push c.loop-arrival.at.items c.widened.result,
        c.loop-arrival.invariant.1,
      ),
    )
