use Rattle.answer_texts.proofs.Vocabulary.{◌≡◌, ◌++◌, codes, length, line_of, text_of, count_line, lines_below, arrival_line}
use Rattle.answer_texts.proofs.arrivals.push_arrivals.Given as goal

-- the count, and the registers so far
abbrev pub invariant-loop-register : goal.invariant-loop-register
invariant-loop-register l =
    l.out.items
    ≡ (l.fn.out.items ++ line_of (count_line (codes "registers") (length l.schedule.at)))
    ++ text_of (lines_below (arrival_line l.circuit l.schedule) l.register)
