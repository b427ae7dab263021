use Rattle.report_text.proofs.Vocabulary.{append_assoc, arith, held_same}
use Rattle.report_text.proofs.timing.push_register.Goals as goal

pub returns : goal.returns
returns c = search (arith, held_same, append_assoc)
