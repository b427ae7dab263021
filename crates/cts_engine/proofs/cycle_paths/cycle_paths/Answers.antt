use Rattle.cts_engine.proofs.cycle_paths.cycle_paths.Goals as goal

pub returns-in-Cycle : goal.returns-in-Cycle
returns-in-Cycle c = rw c.in-Cycle.is (rw c.as_slice.ensures at c.of_constraints.ensures.paths)
