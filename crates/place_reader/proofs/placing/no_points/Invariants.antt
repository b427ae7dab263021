use Rattle.place_reader.proofs.Vocabulary.{◌≡◌, None, replicate}
use Rattle.place_reader.proofs.placing.no_points.Given as goal

abbrev pub invariant-loop : goal.invariant-loop
invariant-loop l = l.points ≡ replicate l.counter None
