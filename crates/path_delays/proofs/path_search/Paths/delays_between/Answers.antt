-- One block more.
use Rattle.path_delays.proofs.Vocabulary.{arith}
use Rattle.path_delays.proofs.BetweenLemmas.{take_on}
use Rattle.path_delays.proofs.path_search.Paths.delays_between.Goals as goal

pub loop-first-preserved : goal.loop-first-preserved
loop-first-preserved c = grind (arith, take_on)
