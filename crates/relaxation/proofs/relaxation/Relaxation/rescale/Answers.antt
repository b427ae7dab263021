-- Each value is small once it is brought over.
use Rattle.std.proofs.Common.{refl, arith}
use Rattle.relaxation.proofs.PrepareLemmas.{IsPrepared-more}
use Rattle.relaxation.proofs.relaxation.Relaxation.rescale.Goals as goal

pub loop-register-preserved : goal.loop-register-preserved
loop-register-preserved c = IsPrepared-more (omega arith) refl refl refl c.rescaled.ensures
    c.loop-register.invariant
