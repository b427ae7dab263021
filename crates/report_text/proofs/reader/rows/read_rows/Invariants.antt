use Rattle.report_text.proofs.Vocabulary.{HasRows}
use Rattle.report_text.proofs.reader.rows.read_rows.Given as goal

-- what was read so far
abbrev pub invariant-loop-place : goal.invariant-loop-place
invariant-loop-place g l =
    HasRows l.rules.circuit.now l.rules.scale g.L.Line.due
    (g.L.Line.says l.rules.circuit.now l.rules.scale) l.first l.place l.fn.cursor l.cursor l.rows
