use Rattle.tree_tests.proofs.Vocabulary.{◌≡◌, length, EachMerge}
use Rattle.tree_tests.proofs.trees.topology_of.Given as goal

abbrev pub invariant-loop-nodes : goal.invariant-loop-nodes
invariant-loop-nodes g l = EachMerge l.sinks l.joined × (length l.joined ≡ l.nodes-index)
