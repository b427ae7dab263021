-- The lists so far are combined.
use Rattle.corners.proofs.Vocabulary.{take, IsCombined}
use Rattle.corners.proofs.lists.combine.Given as goal

abbrev pub invariant-loop-corner : goal.invariant-loop-corner
invariant-loop-corner l = IsCombined (take l.corner l.lists) l.combined
