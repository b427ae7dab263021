use Rattle.report_text.proofs.Vocabulary.{arith}
use Rattle.report_text.proofs.LineLemmas.{more_lines}
use Rattle.report_text.proofs.tree.push_nodes.Goals as goal

pub loop-node-preserved : goal.loop-node-preserved
loop-node-preserved c = search (arith, more_lines)
