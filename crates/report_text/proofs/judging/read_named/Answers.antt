use Rattle.report_text.proofs.Vocabulary.{arith}
use Rattle.report_text.proofs.NameNumbers.{other_register}
use Rattle.report_text.proofs.judging.read_named.Goals as goal

pub returns-in-Some-2-clause-flaw : goal.returns-in-Some-2-clause-flaw
returns-in-Some-2-clause-flaw c = search (arith, other_register)
