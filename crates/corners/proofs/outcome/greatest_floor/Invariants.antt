-- The greatest of the floors so far, the first among them.
use Rattle.corners.proofs.FloorLemmas.{IsGreatestSoFar}
use Rattle.corners.proofs.outcome.greatest_floor.Given as goal

abbrev pub invariant-loop-tech : goal.invariant-loop-tech
invariant-loop-tech l = IsGreatestSoFar l.techs l.tech-index l.greatest
