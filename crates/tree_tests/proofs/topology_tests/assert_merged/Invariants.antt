use Rattle.std.proofs.Common.{All}
use Rattle.cts_model.specs.Vocabulary.{IsTreeSink}
use Rattle.tree_tests.proofs.topology_tests.assert_merged.Given as goal

abbrev pub invariant-loop-place : goal.invariant-loop-place
invariant-loop-place g l = All IsTreeSink l.sinks.items
