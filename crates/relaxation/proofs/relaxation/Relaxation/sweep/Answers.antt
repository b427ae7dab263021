-- A look at each place, from the first on or from the last down.
use Rattle.std.proofs.Common.{arith}
use Rattle.relaxation.proofs.StepLemmas.{IsUnderWay-none, IsUnderWay-more, small_now, IsSweep-all}
use Rattle.relaxation.proofs.relaxation.Relaxation.sweep.Goals as goal

pub loop-turn-init : goal.loop-turn-init
loop-turn-init c = IsUnderWay-none c.args.self.now

pub relax-requires-clause-small : goal.relax-requires-clause-small
relax-requires-clause-small c = small_now c.loop-turn.invariant
    (omega (arith, c.args.self.now.small.few)) c.requires

pub loop-turn-preserved : goal.loop-turn-preserved
loop-turn-preserved c = rw c.or-changed.ensures
    (IsUnderWay-more c.loop-turn.invariant c.relax.result c.place_at-place.ensures.place
    c.place_at-place.ensures.within c.relax.ensures)

pub returns : goal.returns
returns c = IsSweep-all c.loop-turn.invariant (omega arith)
