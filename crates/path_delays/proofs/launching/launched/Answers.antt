-- The host launches the inputs, and any other register its own signal.
use Rattle.std.proofs.Common.{arith}
use Rattle.path_delays.proofs.LaunchLemmas.{inputs_launched, own_launched}
use Rattle.path_delays.proofs.launching.launched.Goals as goal

pub returns-then-is_host : goal.returns-then-is_host
returns-then-is_host c = grind (arith, inputs_launched)

pub returns-else-is_host : goal.returns-else-is_host
returns-else-is_host c = grind (arith, own_launched)
