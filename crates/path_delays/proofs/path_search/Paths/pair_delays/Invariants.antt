use Rattle.path_delays.proofs.Vocabulary.{◌≡◌, ◌-◌, length, IsCapturingOf, ListsPairsBefore}
use Rattle.path_delays.proofs.path_search.Paths.pair_delays.Given as goal

abbrev pub invariant-loop-first : goal.invariant-loop-first
invariant-loop-first l = record {
  same : l.self ≡ l.fn.self;
  capturing : IsCapturingOf l.fn.self.circuit l.capturing;
  listed : ListsPairsBefore l.fn.self.circuit l.fn.self.tech l.first 0 l.pairs.list.items;
}

abbrev pub decreases-loop-first : goal.decreases-loop-first
decreases-loop-first l = length l.fn.self.circuit.registers - l.first
