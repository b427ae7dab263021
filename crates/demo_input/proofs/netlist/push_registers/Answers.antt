use Rattle.demo_input.specs.NetlistLines.{flip_flop_line}
use Rattle.demo_input.proofs.LineLemmas.{more_lines}
use Rattle.demo_input.proofs.netlist.push_registers.Goals as goal

pub loop-register-preserved : goal.loop-register-preserved
loop-register-preserved c =
    more_lines (flip_flop_line c.args.registers) c.loop-register.register
    c.args.out.now.items c.loop-register.out.items c.push_register.new.out.items
    c.loop-register.invariant c.in_ok-push_register.ensures
