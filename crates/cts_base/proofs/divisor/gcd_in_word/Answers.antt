use Rattle.cts_base.proofs.Vocabulary.{arith, IsGcd-from_zero, IsGcd-from_mod}
use Rattle.cts_base.proofs.divisor.gcd_in_word.Goals as goal

pub loop-y-preserved : goal.loop-y-preserved
loop-y-preserved c divisor divides = c.loop-y.invariant divisor (IsGcd-from_mod _ _ divisor divides)

pub returns : goal.returns
returns c = record { greatest = c.loop-y.invariant _ (IsGcd-from_zero _ _ (omega arith)) }
