use Rattle.answer_texts.proofs.Vocabulary.{◌≡◌, ◌++◌, codes, length, line_of, text_of, count_line, lines_below, cornered_line_at}
use Rattle.answer_texts.proofs.cornering.push_numbered.Given as goal

-- the count, and the constraints so far
abbrev pub invariant-loop-place : goal.invariant-loop-place
invariant-loop-place l =
    l.out.items
    ≡ (l.fn.out.items ++ line_of (count_line (codes "cycle") (length l.cycle)))
    ++ text_of (lines_below (cornered_line_at l.circuit l.cycle l.corners) l.place)
