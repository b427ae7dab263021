use Rattle.report_text.proofs.Vocabulary.{◌≡◌, ◌++◌, text_of, lines_below, node_line_at}
use Rattle.report_text.proofs.tree.push_nodes.Given as goal

-- the nodes so far
abbrev pub invariant-loop-node : goal.invariant-loop-node
invariant-loop-node l =
    l.out.items ≡ l.fn.out.items ++ text_of
    (lines_below (node_line_at l.printed.circuit.now l.printed.report.now) l.node)
