-- The paths of the constraints passed so far.
use Rattle.std.proofs.Common.{◌≤◌}
use Rattle.path_delays.proofs.CyclePathLemmas.{KeepsBefore}
use Rattle.path_delays.proofs.path_search.Paths.push_paths.Given as goal

abbrev pub invariant-loop-lane : goal.invariant-loop-lane
invariant-loop-lane l = record {
  keeps : KeepsBefore l.self-inside.circuit.now l.self-inside.tech.now l.block.items.now
      l.room l.lane l.left l.initial.paths l.paths;
  less : l.left ≤ l.room;
}
