-- In the second version there is a path for each place.
use Rattle.cert_check.proofs.Vocabulary.{arith}
use Rattle.cert_check.proofs.JudgeFacts.{second_count}
use Rattle.cert_check.proofs.judge.Judge.judge_paths.Goals as goal

pub returns : goal.returns
returns c place within second = search (arith, second_count)
