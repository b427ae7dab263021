-- One block more, and all of them.
use Rattle.std.proofs.Common.{arith}
use Rattle.path_delays.proofs.CyclePathLemmas.{all_paths, earlier_paths_more}
use Rattle.path_delays.proofs.path_search.Paths.of_constraints.Goals as goal

pub loop-first-preserved : goal.loop-first-preserved
loop-first-preserved c = grind (arith, earlier_paths_more)

pub returns-clause-paths : goal.returns-clause-paths
returns-clause-paths c = all_paths c.args.self.now.circuit c.args.self.now.tech
    c.args.constraints.now c.loop-first.first c.loop-first.room c.loop-first.paths
    c.loop-first-test.false c.loop-first.invariant.earlier
