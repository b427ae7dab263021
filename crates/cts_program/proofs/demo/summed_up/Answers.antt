use Rattle.answer_texts.proofs.TreeTexts.{summary_says}
use Rattle.cts_program.proofs.demo.summed_up.Goals as goal

pub summary_text-requires : goal.summary_text-requires
summary_text-requires c =
    (c.args.problem.now.tech, (rw c.in-Done.is at c.requires.outcome).made.bounds)

pub never-requires : goal.never-requires
never-requires c =
    rw c.as_slice.ensures
    (c.args.problem.now.tech, rw c.in-Never.is at c.requires.outcome)

pub returns-in_ok-text-in-Done-clause-text : goal.returns-in_ok-text-in-Done-clause-text
returns-in_ok-text-in-Done-clause-text c =
    let made = rw c.in-Done.is at c.requires.outcome in
    let lowest = rw c.in-Done.is at c.requires.lowest in
    let shown = rw c.in-Done.is at c.requires.shown in
    let checked = c.in_ok-is_shown-in-Done.ensures.checked c.if-not-branch.false in
    rw (c.done.ensures.ending, c.done.ensures.text) (summary_says c.args.problem.now
    c.in-Done.report lowest shown made c.args.registers checked c.in_ok-text-in-Done.text.items
    c.in_ok-text-in-Done.ensures)
