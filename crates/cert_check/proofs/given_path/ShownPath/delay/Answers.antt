-- The delay is small.
use Rattle.cert_check.proofs.Vocabulary.{arith, common_steps}
use Rattle.cert_check.proofs.KeptNumbers.{kept_sum}
use Rattle.cert_check.proofs.given_path.ShownPath.delay.Goals as goal

pub returns-in-len1-up-clause-small : goal.returns-in-len1-up-clause-small
returns-in-len1-up-clause-small c = kept_sum c.register_delay-first.result c.through.result
    c.register_delay-first.ensures.small c.through.ensures.small

pub returns-in-len1-up-clause-value : goal.returns-in-len1-up-clause-value
returns-in-len1-up-clause-value c = grind (arith, common_steps)
