use Rattle.report_text.proofs.ScanLemmas.{HasRead}
use Rattle.report_text.proofs.tree_values.read_corners.Given as goal

abbrev pub invariant-loop-place : goal.invariant-loop-place
invariant-loop-place l = HasRead l.rules.scale l.initial.scan l.place l.corners l.scan
