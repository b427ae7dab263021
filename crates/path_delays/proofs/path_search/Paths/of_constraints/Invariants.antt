-- The paths of the blocks passed so far.
use Rattle.path_delays.proofs.Vocabulary.{◌≡◌, ◌≤◌, ◌-◌, length}
use Rattle.path_delays.proofs.CyclePathLemmas.{AreEarlierPaths}
use Rattle.path_delays.proofs.path_search.Paths.of_constraints.Given as goal

abbrev pub invariant-loop-first : goal.invariant-loop-first
invariant-loop-first l = record {
  same : l.self ≡ l.fn.self;
  earlier : AreEarlierPaths l.fn.self.circuit l.fn.self.tech l.constraints l.first l.room l.paths;
  within : l.first ≤ length l.constraints;
}

abbrev pub decreases-loop-first : goal.decreases-loop-first
decreases-loop-first l = length l.constraints - l.first
