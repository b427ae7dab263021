use Rattle.answer_texts.proofs.CornerRegisters.{corners_among}
use Rattle.answer_texts.proofs.cornering.push_common_show.Goals as goal

pub push_numbered-requires-clause-between : goal.push_numbered-requires-clause-between
push_numbered-requires-clause-between c =
    rw c.as_slice.ensures (corners_among c.args.circuit.now c.requires.0 c.in-Cycle.cycle
    c.args.corners.now (rw c.in-Cycle.is at c.requires.1.1).of_corners)
