use Rattle.cts_program.proofs.Vocabulary.{corners_says}
use Rattle.cts_program.proofs.answers.corners.Goals as goal

pub returns-clause-text : goal.returns-clause-text
returns-clause-text c =
    corners_says c.args.told.now.circuit c.args.told.now.techs c.in_ok-outcome.outcome c.in_ok-outcome.ensures.ok
    c.in_ok-outcome.ensures.lowest _ _ c.in_ok-answer.ensures.ending c.in_ok-answer.ensures.text
