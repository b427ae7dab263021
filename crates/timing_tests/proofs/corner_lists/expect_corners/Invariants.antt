use Rattle.timing_tests.proofs.Vocabulary.{All, take, AreParallel}
use Rattle.timing_tests.proofs.corner_lists.expect_corners.Given as goal

abbrev pub invariant-loop-corner : goal.invariant-loop-corner
invariant-loop-corner g l = All (λ one. All (AreParallel one) l.lists) (take l.corner l.lists)
