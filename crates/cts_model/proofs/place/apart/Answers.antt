use Rattle.cts_model.proofs.Vocabulary.{arith, ints, clamps}
use Rattle.cts_model.proofs.place.apart.Goals as goal

pub returns-clause-value : goal.returns-clause-value
returns-clause-value c = omega (arith, ints, clamps)

pub returns-clause-low : goal.returns-clause-low
returns-clause-low c = omega (arith, ints, clamps)

pub returns-clause-high : goal.returns-clause-high
returns-clause-high c = omega (arith, ints, clamps)
