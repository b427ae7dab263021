use Rattle.timing_tests.proofs.Vocabulary.{◌<◌, ℕ, AreAlike, constraint_at}
use Rattle.timing_tests.proofs.corner_lists.expect_parallel.Given as goal

abbrev pub invariant-loop-place : goal.invariant-loop-place
invariant-loop-place g l = (before : ℕ) → before < l.place
    → AreAlike (constraint_at l.one before) (constraint_at l.other before)
