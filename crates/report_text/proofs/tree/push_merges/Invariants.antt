use Rattle.report_text.proofs.Vocabulary.{◌≡◌, ◌++◌, text_of, lines_below, merge_line_at}
use Rattle.report_text.proofs.tree.push_merges.Given as goal

-- the merges so far
abbrev pub invariant-loop-place : goal.invariant-loop-place
invariant-loop-place l =
    l.out.items ≡ l.fn.out.items ++ text_of
    (lines_below (merge_line_at l.printed.circuit.now l.printed.report.now) l.place)
