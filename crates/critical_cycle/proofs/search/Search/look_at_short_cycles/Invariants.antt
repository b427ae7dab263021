use Rattle.critical_cycle.specs.Searches.{IsSameSearch}
use Rattle.critical_cycle.proofs.search.Search.look_at_short_cycles.Given as goal

abbrev pub invariant-loop-place : goal.invariant-loop-place
invariant-loop-place l = IsSameSearch l.initial.self l.self
