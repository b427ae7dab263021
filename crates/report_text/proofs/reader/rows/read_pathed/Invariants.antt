use Rattle.report_text.proofs.Vocabulary.{HasPathed}
use Rattle.report_text.proofs.reader.rows.read_pathed.Given as goal

-- what was read so far
abbrev pub invariant-loop-place : goal.invariant-loop-place
invariant-loop-place l =
    HasPathed l.rules.circuit.now l.rules.scale l._place l.fn.cursor l.cursor (l.cycle, l.paths)
