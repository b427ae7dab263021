-- The paths are those of the circuit.
use Rattle.path_delays.proofs.single_calls.pair_delays.Goals as goal

pub returns-clause-few : goal.returns-clause-few
returns-clause-few c = rw c.in_ok-paths.ensures at c.pair_delays.ensures.few

pub returns-clause-many : goal.returns-clause-many
returns-clause-many c = rw c.in_ok-paths.ensures at c.pair_delays.ensures.many
