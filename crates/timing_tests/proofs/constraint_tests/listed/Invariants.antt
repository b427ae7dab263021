use Rattle.std.proofs.Common.{All}
use Rattle.cts_model.specs.Vocabulary.{IsSmallPair}
use Rattle.timing_tests.proofs.constraint_tests.listed.Given as goal

abbrev pub invariant-loop-row : goal.invariant-loop-row
invariant-loop-row g l = All IsSmallPair l.pairs
