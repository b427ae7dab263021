use Rattle.tree_tests.proofs.Vocabulary.{◌≡◌, length, IsTreeSink}
use Rattle.std.specs.Prelude.{All}
use Rattle.tree_tests.proofs.trees.sinks_of.Given as goal

abbrev pub invariant-loop-place : goal.invariant-loop-place
invariant-loop-place g l = All IsTreeSink l.sinks.items × (length l.sinks.items ≡ l.place-index)
