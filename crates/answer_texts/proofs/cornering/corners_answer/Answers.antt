use Rattle.answer_texts.proofs.ArrivalLemmas.{common_can_print}
use Rattle.answer_texts.proofs.CornerRegisters.{corners_among}
use Rattle.answer_texts.proofs.cornering.corners_answer.Goals as goal

pub push_common_show-requires : goal.push_common_show-requires
push_common_show-requires c =
    rw c.as_slice.ensures (
      c.requires.outcome.0,
      (c.in-Found.period, (rw c.in-Found.is at c.requires.outcome.1).shown),
    )

pub push_numbered-requires-clause-between : goal.push_numbered-requires-clause-between
push_numbered-requires-clause-between c =
    rw c.as_slice-in-Never.ensures (corners_among c.args.circuit.now c.requires.outcome.0
    c.in-Never.cycle c.in-Never.corner (rw c.in-Never.is at c.requires.outcome.1).of_corners)

pub push_arrivals-requires-clause-small : goal.push_arrivals-requires-clause-small
push_arrivals-requires-clause-small c =
    common_can_print c.in-Found.period c.in-Found.schedule (rw c.in-Found.is at c.requires.small)
    (rw c.in-Found.is at c.requires.outcome.1).arrivals.den
