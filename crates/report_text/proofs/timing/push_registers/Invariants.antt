use Rattle.report_text.proofs.Vocabulary.{◌≡◌, ◌++◌, text_of, lines_below, register_line_at}
use Rattle.report_text.proofs.timing.push_registers.Given as goal

-- the registers so far
abbrev pub invariant-loop-register : goal.invariant-loop-register
invariant-loop-register l =
    l.out.items ≡ l.fn.out.items ++ text_of
    (lines_below (register_line_at l.printed.circuit.now l.printed.report.now) l.register)
