use Rattle.report_text.proofs.Vocabulary.{append_assoc, arith}
use Rattle.report_text.proofs.LineLemmas.{line_of-suffix, path_line-some}
use Rattle.report_text.proofs.timing.push_path.Goals as goal

pub returns : goal.returns
returns c = search (arith, path_line-some, line_of-suffix, append_assoc)
