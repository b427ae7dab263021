-- Goals that `grind` closes at once, and that `search` tries for long.
use Rattle.path_delays.proofs.Vocabulary.{arith, common_steps}
use Rattle.path_delays.proofs.captures.push_captured.Goals as goal

pub loop-signal-preserved : goal.loop-signal-preserved
loop-signal-preserved c = grind (arith, common_steps)

pub returns : goal.returns
returns c = grind (arith, common_steps)
