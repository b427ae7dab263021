use Rattle.answer_texts.proofs.period.period_answer.Goals as goal

pub push_found-requires : goal.push_found-requires
push_found-requires c = (c.requires.0, (rw c.in-Found.is at c.requires.1).shown)

pub never-requires : goal.never-requires
never-requires c =
    rw c.as_slice.ensures (c.requires.0, rw c.in-Never.is at c.requires.1)
