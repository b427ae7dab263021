use Rattle.answer_texts.proofs.tree.tree_answer.Goals as goal

pub write_report-requires-clause-bounds : goal.write_report-requires-clause-bounds
write_report-requires-clause-bounds c =
    (c.args.problem.now.tech, (rw c.in-Done.is at c.requires.1).bounds)

pub never-requires : goal.never-requires
never-requires c =
    rw c.as_slice.ensures (c.args.problem.now.tech, rw c.in-Never.is at c.requires.1)
