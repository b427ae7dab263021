use Rattle.timing_tests.proofs.Vocabulary.{◌≡◌, length, IsSmallConstraint}
use Rattle.std.specs.Prelude.{All}
use Rattle.timing_tests.proofs.constraint_lists.list_of.Given as goal

abbrev pub invariant-loop-constraint : goal.invariant-loop-constraint
invariant-loop-constraint g l = All (IsSmallConstraint l.registers) l.list
    × (length l.list ≡ l.constraint-index)
