use Rattle.cts_program.proofs.Vocabulary.{schedule_says}
use Rattle.cts_program.proofs.answers.schedule.Goals as goal

pub returns-clause-text : goal.returns-clause-text
returns-clause-text c =
    schedule_says c.args.denoted.now.circuit c.args.denoted.now.tech c.in_ok-outcome.outcome c.in_ok-outcome.ensures.ok
    c.in_ok-outcome.ensures.lowest _ _ c.in_ok-answer.ensures.ending c.in_ok-answer.ensures.text
