use Rattle.report_text.proofs.Vocabulary.{arith, to_z-of_z}
use Rattle.report_text.proofs.judging.fraction.steps_below.Goals as goal

pub returns : goal.returns
returns c = search (arith, to_z-of_z)
