-- The arrival is kept as it is.
use Rattle.cert_check.proofs.Vocabulary.{arith, ints, to_z-of_z}
use Rattle.cert_check.proofs.judge.Judge.arrival.Goals as goal

pub returns-clause-small : goal.returns-clause-small
returns-clause-small c = search (arith, to_z-of_z, ints)
