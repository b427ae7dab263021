-- The greater of two distances.
use Rattle.cert_check.proofs.Vocabulary.{arith, ints, clamps}
use Rattle.cert_check.proofs.shows.rotated_distance.Goals as goal

pub returns-clause-below : goal.returns-clause-below
returns-clause-below c = search (arith, ints, clamps)
