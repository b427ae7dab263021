-- The delays of the pairs of the blocks passed so far.
use Rattle.path_delays.proofs.Vocabulary.{◌≡◌, ◌≤◌, ◌-◌, length, take, AreDelaysBetween}
use Rattle.path_delays.proofs.path_search.Paths.delays_between.Given as goal

abbrev pub invariant-loop-first : goal.invariant-loop-first
invariant-loop-first l = record {
  same : l.self ≡ l.fn.self;
  delays : AreDelaysBetween l.fn.self.circuit l.fn.self.tech (take l.first l.pairs) l.delays.items;
  within : l.first ≤ length l.pairs;
}

abbrev pub decreases-loop-first : goal.decreases-loop-first
decreases-loop-first l = length l.pairs - l.first
