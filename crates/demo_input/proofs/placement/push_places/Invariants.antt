use Rattle.std.proofs.Common.{◌≡◌, ◌++◌}
use Rattle.demo_input.specs.Lines.{lines_for_each, ended_lines}
use Rattle.demo_input.specs.PlacementLines.{place_line}
use Rattle.demo_input.proofs.placement.push_places.Given as goal

-- the lines so far
abbrev pub invariant-loop-register : goal.invariant-loop-register
invariant-loop-register l =
    l.out.items
    ≡ l.fn.out.items ++ ended_lines (lines_for_each (place_line l.seed) l.register)
