use Rattle.report_text.proofs.Vocabulary.{arith}
use Rattle.report_text.proofs.LineLemmas.{more_lines}
use Rattle.report_text.proofs.tree.push_merges.Goals as goal

pub loop-place-preserved : goal.loop-place-preserved
loop-place-preserved c = search (arith, more_lines)
