use Rattle.answer_texts.proofs.Vocabulary.{arrival_line, more_lines}
use Rattle.answer_texts.proofs.arrivals.push_arrivals.Goals as goal

pub loop-register-preserved : goal.loop-register-preserved
loop-register-preserved c =
    more_lines (arrival_line c.args.circuit.now c.args.schedule.now) c.loop-register.register _
    c.loop-register.out.items c.push_arrival.new.out.items c.loop-register.invariant
    c.in_ok-push_arrival.ensures
