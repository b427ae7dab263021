use Rattle.std.proofs.lemmas.Nat.{mul-le}
use Rattle.timing_report.proofs.Vocabulary.{arith, ints}
use Rattle.timing_report.proofs.slack.Edge.scaled.Goals as goal

pub returns-clause-small : goal.returns-clause-small
returns-clause-small c = grind (arith, ints, mul-le)
