-- Half of an even number is what the code gives.
use Rattle.cts_model.proofs.Vocabulary.{arith, ints}
use Rattle.cts_model.proofs.PointLemmas.{halves}
use Rattle.cts_model.proofs.place.half.Goals as goal

pub returns : goal.returns
returns c = omega (arith, ints, halves c.args.sum c.requires)
