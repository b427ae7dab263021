use Rattle.std.proofs.Common.{◌<◌, length}
use Rattle.relaxation.proofs.ClimbLemmas.{IsClimbing}
use Rattle.relaxation.proofs.relaxation.Relaxation.climb.Given as goal

abbrev pub invariant-loop-step : goal.invariant-loop-step
invariant-loop-step l = (l.register < length l.self.values.items) × IsClimbing
    l.self.constraints.now
    l.self.parents.items l.from l._step l.register
