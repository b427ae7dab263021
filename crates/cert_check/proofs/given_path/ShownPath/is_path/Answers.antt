-- Goals that `grind` closes at once, and that `search` tries for long.
use Rattle.cert_check.proofs.Vocabulary.{arith, common_steps}
use Rattle.cert_check.proofs.given_path.ShownPath.is_path.Goals as goal

pub returns-then-launches : goal.returns-then-launches
returns-then-launches c = grind (arith, common_steps)
