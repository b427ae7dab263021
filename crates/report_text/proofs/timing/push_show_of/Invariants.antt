use Rattle.report_text.proofs.Vocabulary.{◌≡◌, ◌++◌, ◌∷◌, drop, length, codes, count_line, text_of, pathed_lines}
use Rattle.report_text.proofs.timing.push_show_of.Given as goal

-- with the lines that are left, all is there
abbrev pub invariant-loop-place : goal.invariant-loop-place
invariant-loop-place l =
    l.out.items ++ text_of (pathed_lines l.circuit (drop l.place l.cycle)
    (drop l.place l.report.paths)) ≡ l.fn.out.items ++ text_of
    (count_line (codes "cycle") (length l.cycle)
    ∷ pathed_lines l.circuit l.cycle l.report.paths)
