-- The places so far include the list.
use Rattle.corners.proofs.InclusionLemmas.{IsIncludingFrom}
use Rattle.corners.proofs.fold.Combined.include.Given as goal

abbrev pub invariant-loop-place : goal.invariant-loop-place
invariant-loop-place l = IsIncludingFrom l.list l.corner l.place l.initial.self l.self
