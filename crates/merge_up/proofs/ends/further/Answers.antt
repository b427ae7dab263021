use Rattle.merge_up.proofs.Vocabulary.{arith, ints}
use Rattle.merge_up.proofs.EndLemmas.{end_first, end_second}
use Rattle.merge_up.proofs.ends.further.Goals as goal

pub returns-then-one-other : goal.returns-then-one-other
returns-then-one-other c = λ sinks first second far. end_second
    (omega (arith, ints, c.if-one-other.true))

pub returns-else-one-other : goal.returns-else-one-other
returns-else-one-other c = λ sinks first second far. end_first
    (omega (arith, ints, c.if-one-other.false))
