use Rattle.merge_up.proofs.nodes.Nodes.+find.Given as goal

abbrev pub decreases-find : goal.decreases-find
decreases-find l = l.node
