use Rattle.place_reader.specs.Placements.{register_nodes}
use Rattle.place_reader.specs.Taken.{kept_at}
use Rattle.place_reader.proofs.ToldPlaces.{ArePoints}
use Rattle.place_reader.proofs.read.register_places.Given as goal

abbrev pub invariant-loop-register : goal.invariant-loop-register
invariant-loop-register l =
    ArePoints (kept_at l.placing) (register_nodes l.circuit l.host) l.register l.points
