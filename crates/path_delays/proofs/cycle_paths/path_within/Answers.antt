use Rattle.path_delays.proofs.Vocabulary.{arith, same_Some}
use Rattle.path_delays.proofs.CyclePathLemmas.{path_kept, without_room}
use Rattle.path_delays.proofs.cycle_paths.path_within.Goals as goal

pub returns-then-room-eq0-clause-path : goal.returns-then-room-eq0-clause-path
returns-then-room-eq0-clause-path c tech is_one reach = grind (arith, without_room)

pub returns-in-Some-clause-path : goal.returns-in-Some-clause-path
returns-in-Some-clause-path c tech is_one reach = grind (arith, path_kept, same_Some)
