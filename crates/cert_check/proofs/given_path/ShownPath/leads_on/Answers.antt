-- Goals that `grind` closes at once, and that `search` tries for long.
use Rattle.cert_check.proofs.Vocabulary.{arith, common_steps}
use Rattle.cert_check.proofs.given_path.ShownPath.leads_on.Goals as goal

pub returns-then-not-reads : goal.returns-then-not-reads
returns-then-not-reads c = grind (arith, common_steps)

pub loop-gate-preserved : goal.loop-gate-preserved
loop-gate-preserved c = grind (arith, common_steps)

pub returns : goal.returns
returns c = grind (arith, common_steps)
