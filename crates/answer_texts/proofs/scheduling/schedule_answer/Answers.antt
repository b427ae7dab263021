use Rattle.answer_texts.proofs.scheduling.schedule_answer.Goals as goal

pub push_found-requires : goal.push_found-requires
push_found-requires c =
    (c.requires.outcome.0, (rw c.in-Found.is at c.requires.outcome.1).found.shown)

pub never-requires : goal.never-requires
never-requires c =
    rw c.as_slice-in-Never.ensures
    (c.requires.outcome.0, rw c.in-Never.is at c.requires.outcome.1)
