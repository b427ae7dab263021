use Rattle.report_text.proofs.Vocabulary.{◌≡◌, ◌++◌, ◌∷◌, map, take, length, codes, line_for, count_line, text_of}
use Rattle.report_text.proofs.period.push_cycle.Given as goal

-- the count, and the constraints so far
abbrev pub invariant-loop-constraint : goal.invariant-loop-constraint
invariant-loop-constraint l =
    l.out.items ≡ l.fn.out.items ++ text_of (count_line (codes "cycle") (length l.cycle)
    ∷ map (line_for l.circuit) (take l.constraint-index l.cycle))
