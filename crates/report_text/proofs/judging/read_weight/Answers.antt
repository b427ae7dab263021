use Rattle.report_text.proofs.Vocabulary.{arith, ints}
use Rattle.report_text.proofs.NumberWords.{whole_read}
use Rattle.report_text.proofs.SpelledFields.{size_below}
use Rattle.report_text.proofs.judging.read_weight.Goals as goal

pub returns-clause-value : goal.returns-clause-value
returns-clause-value c = search (arith, ints, whole_read, size_below)
