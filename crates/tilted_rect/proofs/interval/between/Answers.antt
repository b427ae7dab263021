use Rattle.tilted_rect.proofs.Vocabulary.{arith, ints, clamps}
use Rattle.tilted_rect.proofs.interval.between.Goals as goal

pub returns-then-other_hi-lo : goal.returns-then-other_hi-lo
returns-then-other_hi-lo c = omega (arith, ints, clamps)

pub returns-else-other_hi-lo : goal.returns-else-other_hi-lo
returns-else-other_hi-lo c = omega (arith, ints, clamps)
