use Rattle.answer_texts.proofs.Vocabulary.{◌≡◌, ◌++◌, codes, length, line_of, text_of, count_line, lines_below, scheduled_line_at}
use Rattle.answer_texts.proofs.registers.push_registers.Given as goal

-- the count, and the registers so far
abbrev pub invariant-loop-register : goal.invariant-loop-register
invariant-loop-register l =
    l.out.items
    ≡ (l.fn.out.items ++ line_of (count_line (codes "registers") (length l.schedule.at)))
    ++ text_of (lines_below (scheduled_line_at l.circuit l.schedule l.slacks) l.register)
