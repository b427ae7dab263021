use Rattle.std.proofs.Common.{◌≡◌, ◌++◌}
use Rattle.demo_input.specs.Lines.{lines_for_each, ended_lines}
use Rattle.demo_input.specs.NetlistLines.{flip_flop_line}
use Rattle.demo_input.proofs.netlist.push_registers.Given as goal

-- the lines so far
abbrev pub invariant-loop-register : goal.invariant-loop-register
invariant-loop-register l =
    l.out.items
    ≡ l.fn.out.items ++ ended_lines (lines_for_each (flip_flop_line l.registers) l.register)
