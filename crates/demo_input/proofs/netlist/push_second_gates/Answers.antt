use Rattle.demo_input.specs.NetlistLines.{second_gate_line}
use Rattle.demo_input.proofs.LineLemmas.{more_lines}
use Rattle.demo_input.proofs.netlist.push_second_gates.Goals as goal

pub loop-register-preserved : goal.loop-register-preserved
loop-register-preserved c =
    more_lines second_gate_line c.loop-register.register
    c.args.out.now.items c.loop-register.out.items c.push_second_gate.new.out.items
    c.loop-register.invariant c.in_ok-push_second_gate.ensures
