use Rattle.timing_tests.proofs.Vocabulary.{All, take, AreParallel, list_of}
use Rattle.timing_tests.proofs.corner_lists.expect_parallel_to_all.Given as goal

abbrev pub invariant-loop-other : goal.invariant-loop-other
invariant-loop-other g l = All (AreParallel (list_of l.lists l.corner)) (take l.other l.lists)
