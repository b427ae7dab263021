use Rattle.cts_base.proofs.Vocabulary.{rules, IsGcd-from_zero, IsGcd-from_mod, le_of_dvd}
use Rattle.cts_base.proofs.Divisors.{some_gcd}
use Rattle.cts_base.proofs.divisor.gcd.Goals as goal

pub loop-y-preserved : goal.loop-y-preserved
loop-y-preserved c divisor divides = c.loop-y.invariant divisor (IsGcd-from_mod _ _ divisor divides)

pub returns-then-y-eq0-clause-greatest : goal.returns-then-y-eq0-clause-greatest
returns-then-y-eq0-clause-greatest c =
    c.loop-y.invariant _ (IsGcd-from_zero c.loop-y.x c.loop-y.y (search rules))

pub returns-then-y-eq0-clause-some : goal.returns-then-y-eq0-clause-some
returns-then-y-eq0-clause-some c =
    some_gcd c.args.a c.args.b _ c.requires.some_b
    (c.loop-y.invariant _ (IsGcd-from_zero c.loop-y.x c.loop-y.y (search rules)))

pub returns-then-y-eq0-clause-within : goal.returns-then-y-eq0-clause-within
returns-then-y-eq0-clause-within c =
    le_of_dvd c.requires.some_b
    (c.loop-y.invariant _ (IsGcd-from_zero c.loop-y.x c.loop-y.y (search rules))).1

pub returns-clause-greatest : goal.returns-clause-greatest
returns-clause-greatest c =
    c.loop-y.invariant _ (IsGcd-from_mod c.loop-y.x c.loop-y.y _ c.gcd_in_word.ensures.greatest)

pub returns-clause-some : goal.returns-clause-some
returns-clause-some c =
    some_gcd c.args.a c.args.b _ c.requires.some_b
    (c.loop-y.invariant _ (IsGcd-from_mod c.loop-y.x c.loop-y.y _ c.gcd_in_word.ensures.greatest))

pub returns-clause-within : goal.returns-clause-within
returns-clause-within c =
    le_of_dvd c.requires.some_b
    (c.loop-y.invariant _ (IsGcd-from_mod c.loop-y.x c.loop-y.y _ c.gcd_in_word.ensures.greatest)).1
