use Rattle.corners.proofs.outcome.corners_of.Goals as goal

pub returns-clause-never : goal.returns-clause-never
returns-clause-never c = rw c.as_slice-techs.ensures at c.in_ok-outcome.ensures.never
