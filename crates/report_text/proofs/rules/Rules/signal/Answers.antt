use Rattle.report_text.proofs.Vocabulary.{arith}
use Rattle.report_text.proofs.NameNumbers.{number_denoted}
use Rattle.report_text.proofs.rules.Rules.signal.Goals as goal

pub returns : goal.returns
returns c = search (arith, number_denoted, c.number_of.ensures, c.args.self.now.named)
