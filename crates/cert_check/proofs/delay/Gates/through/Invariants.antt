-- The delays of the gates passed so far.
use Rattle.cert_check.proofs.WalkLemmas.{IsSumBy}
use Rattle.cert_check.proofs.delay.Gates.through.Given as goal

abbrev pub invariant-loop-place : goal.invariant-loop-place
invariant-loop-place l = IsSumBy l.self.circuit.now l.self.tech.now l.greatest
    l.self.gates.now l.place l.sum
