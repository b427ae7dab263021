use Rattle.cts_program.proofs.Vocabulary.{made_with, synth_says}
use Rattle.cts_program.proofs.answers.synth.Goals as goal

pub tree_answer-requires : goal.tree_answer-requires
tree_answer-requires c =
    made_with c.args.problem.now c.in_ok-outcome.outcome c.in_ok-outcome.ensures.ok

pub returns-clause-text : goal.returns-clause-text
returns-clause-text c =
    synth_says c.args.problem.now c.in_ok-outcome.outcome c.in_ok-outcome.ensures.ok
    c.in_ok-outcome.ensures.shown c.in_ok-outcome.ensures.lowest _ _ c.in_ok-answer.ensures.ending c.in_ok-answer.ensures.text
