-- The lists of the corners so far are combined.
use Rattle.corners.proofs.CommonLemmas.{AreCombinedBefore}
use Rattle.corners.proofs.list_of_corner.combined_by.Given as goal

abbrev pub invariant-loop-corner : goal.invariant-loop-corner
invariant-loop-corner l = AreCombinedBefore l.circuit l.techs l.corner l.combined
