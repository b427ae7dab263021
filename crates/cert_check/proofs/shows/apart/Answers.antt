-- The greater of two differences.
use Rattle.cert_check.proofs.Vocabulary.{arith, ints, clamps}
use Rattle.cert_check.proofs.shows.apart.Goals as goal

pub returns-clause-value : goal.returns-clause-value
returns-clause-value c = omega (arith, ints, clamps)

pub returns-clause-below : goal.returns-clause-below
returns-clause-below c = search (arith, ints, clamps)
