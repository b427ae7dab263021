use Rattle.critical_cycle.specs.Searches.{IsSameSearch}
use Rattle.critical_cycle.proofs.policy.Policy.iterate.Given as goal

abbrev pub invariant-loop-round : goal.invariant-loop-round
invariant-loop-round l = IsSameSearch l.initial.self.search l.self.search
