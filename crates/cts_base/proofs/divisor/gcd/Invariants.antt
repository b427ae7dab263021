use Rattle.cts_base.proofs.Vocabulary.{ℕ, IsGcd}
use Rattle.cts_base.proofs.divisor.gcd.Given as goal

-- the common divisors are those of the two numbers at the start
abbrev pub invariant-loop-y : goal.invariant-loop-y
invariant-loop-y l = (divisor : ℕ) → IsGcd l.x l.y divisor → IsGcd l.fn.a l.fn.b divisor

abbrev pub decreases-loop-y : goal.decreases-loop-y
decreases-loop-y l = l.y
