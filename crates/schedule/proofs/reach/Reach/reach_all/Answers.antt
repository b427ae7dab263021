use Rattle.std.proofs.Common.{arith}
use Rattle.schedule.proofs.HandLemmas.{IsTaking-more}
use Rattle.schedule.proofs.reach.Reach.reach_all.Goals as goal

pub loop-taken-preserved : goal.loop-taken-preserved
loop-taken-preserved c = IsTaking-more c.loop-taken.invariant (omega arith)
    c.index-register.result.now c.index-register.ensures c.in_ok-hand_on.ensures
