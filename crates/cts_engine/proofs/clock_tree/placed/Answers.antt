use Rattle.cts_engine.proofs.Vocabulary.{arith}
use Rattle.cts_engine.proofs.clock_tree.placed.Goals as goal

pub returns : goal.returns
returns c = search arith
