use Rattle.timing_tests.proofs.Vocabulary.{take, All, nat_abs, IsSatisfied, arrival_of}
use Rattle.timing_tests.proofs.constraint_lists.expect_admitted.Given as goal

abbrev pub invariant-loop-constraint : goal.invariant-loop-constraint
invariant-loop-constraint g l =
    All (IsSatisfied (nat_abs l.period.den) l.period.num (arrival_of l.arrivals))
    (take l.constraint-index l.constraint-items)
