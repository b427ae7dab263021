-- What stands at the places so far.
use Rattle.corners.proofs.Vocabulary.{take, AreNamedAt}
use Rattle.corners.proofs.fold.Combined.at.Given as goal

abbrev pub invariant-loop-place : goal.invariant-loop-place
invariant-loop-place l = AreNamedAt l.self (take l.place-index l.places)
    (record { constraints = l.constraints; corner = l.corner })
