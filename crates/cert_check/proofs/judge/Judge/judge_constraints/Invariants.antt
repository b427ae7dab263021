-- The constraints so far are those of the circuit.
use Rattle.cert_check.proofs.Vocabulary.{AtEach, OfCircuit}
use Rattle.cert_check.proofs.judge.Judge.judge_constraints.Given as goal

abbrev pub invariant-loop-place : goal.invariant-loop-place
invariant-loop-place l = AtEach l.place (OfCircuit l.self)
