use Rattle.std.proofs.Common.{ℕ, List}
use Rattle.cts_base.proofs.LineFaults.{ArePassed}
use Rattle.cts_base.proofs.line_format.read_lines.Given as goal

abbrev pub invariant-loop-line : goal.invariant-loop-line
invariant-loop-line g l =
    (goal.iterator-loop-line g).can_next l.line-iterator ×
    (goal.iterator-loop-line g).is_finite l.line-iterator ×
    ((passed : List (List ℕ)) × g.F.LineFormat.has_read l.initial.format l.format passed
    × ArePassed (g.F.LineFormat.fault_of l.initial.format) l.text l.line-iterator l.next passed)
