use Rattle.critical_cycle.specs.Searches.{IsSameSearch}
use Rattle.critical_cycle.proofs.policy.Policy.take_rings.Given as goal

abbrev pub invariant-loop-ring : goal.invariant-loop-ring
invariant-loop-ring l = IsSameSearch l.initial.self.search l.self.search
