use Rattle.report_text.proofs.Vocabulary.{arith, one_register}
use Rattle.report_text.proofs.judging.read_from.Goals as goal

pub returns-in-Some-clause-flaw : goal.returns-in-Some-clause-flaw
returns-in-Some-clause-flaw c = search (arith, one_register)
