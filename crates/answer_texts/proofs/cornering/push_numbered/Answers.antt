use Rattle.answer_texts.proofs.Vocabulary.{cornered_line_at, more_lines}
use Rattle.answer_texts.proofs.cornering.push_numbered.Goals as goal

pub loop-place-preserved : goal.loop-place-preserved
loop-place-preserved c =
    more_lines (cornered_line_at c.args.circuit.now c.args.cycle.now c.args.corners.now)
    c.loop-place.place _ c.loop-place.out.items c.push_numbered_at.new.out.items
    c.loop-place.invariant c.in_ok-push_numbered_at.ensures
