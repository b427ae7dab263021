use Rattle.demo_input.specs.NetlistLines.{first_gate_line}
use Rattle.demo_input.proofs.LineLemmas.{more_lines}
use Rattle.demo_input.proofs.netlist.push_first_gates.Goals as goal

pub loop-register-preserved : goal.loop-register-preserved
loop-register-preserved c =
    more_lines (first_gate_line c.args.registers c.args.seed) c.loop-register.register
    c.args.out.now.items c.loop-register.out.items c.push_first_gate.new.out.items
    c.loop-register.invariant c.in_ok-push_first_gate.ensures
