-- The sums of the constraints passed so far.
use Rattle.cert_check.proofs.SumLemmas.{AreSumsBy}
use Rattle.cert_check.proofs.judge.Judge.is_worth.Given as goal

abbrev pub invariant-loop-constraint : goal.invariant-loop-constraint
invariant-loop-constraint l = AreSumsBy l.self.cycle.now l.constraint-index l.weight l.count
