use Rattle.cts_engine.proofs.Vocabulary.{◌≡◌, take, constraints_at}
use Rattle.cts_engine.proofs.period.constraints_at.Given as goal

abbrev pub invariant-loop-place : goal.invariant-loop-place
invariant-loop-place l = l.listed ≡ constraints_at l.constraints (take l.place-index l.place-items)
