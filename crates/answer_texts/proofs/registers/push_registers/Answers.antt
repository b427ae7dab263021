use Rattle.answer_texts.proofs.Vocabulary.{more_lines, scheduled_line_at}
use Rattle.answer_texts.proofs.registers.push_registers.Goals as goal

pub loop-register-preserved : goal.loop-register-preserved
loop-register-preserved c =
    more_lines (scheduled_line_at c.args.circuit.now c.args.schedule.now c.args.slacks.now)
    c.loop-register.register _ c.loop-register.out.items c.push_register_at.new.out.items
    c.loop-register.invariant c.in_ok-push_register_at.ensures
