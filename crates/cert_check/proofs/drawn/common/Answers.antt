use Rattle.cert_check.proofs.Vocabulary.{arith, ints, clamps}
use Rattle.cert_check.proofs.drawn.common.Goals as goal

pub returns-clause-least : goal.returns-clause-least
returns-clause-least c = omega (
  arith,
  ints,
  clamps,
  c.min.ensures.value,
  c.min-2.ensures.value,
  c.max.ensures.value,
)

pub returns-clause-greatest : goal.returns-clause-greatest
returns-clause-greatest c = omega (
  arith,
  ints,
  clamps,
  c.max-2.ensures.value,
  c.max-3.ensures.value,
  c.min-3.ensures.value,
)
