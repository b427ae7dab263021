use Rattle.schedule.proofs.Vocabulary.{subst, arith, IsReaching}
use Rattle.schedule.proofs.reach.Reach.start.Goals as goal

pub returns : goal.returns
returns c = subst (λ looked. IsReaching c.args.arrivals.now looked c.loop-register.reach)
    (omega arith) c.loop-register.invariant
