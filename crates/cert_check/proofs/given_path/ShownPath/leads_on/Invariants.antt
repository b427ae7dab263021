-- What is left leads to the register exactly where the whole does.
use Rattle.cert_check.proofs.WalkLemmas.{IsLeft}
use Rattle.cert_check.proofs.given_path.ShownPath.leads_on.Given as goal

abbrev pub invariant-loop-gate : goal.invariant-loop-gate
invariant-loop-gate l = IsLeft l.self.circuit.now l.self.to l.first l.gates l.gate-index l.last
