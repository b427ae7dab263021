-- What the cycle weighs and counts by its sums, and the value that they make.
use Rattle.critical_cycle.proofs.Vocabulary.{◌≡◌, ◌^◌, ℤ, refl, sym, true≢false, arith, ints, IsBelow, constraints_at, kept}
use Rattle.critical_cycle.proofs.PlaceLemmas.{length-constraints_at}
use Rattle.critical_cycle.proofs.SumLemmas.{small_sums}
use Rattle.critical_cycle.proofs.MeasureLemmas.{small_in}
use Rattle.critical_cycle.proofs.RaiseLemmas.{no_gain, never_counts, raised, counts_some}
use Rattle.critical_cycle.proofs.raise.raise_by.Goals as goal

pub returns-then-not-exceed : goal.returns-then-not-exceed
returns-then-not-exceed c =
    no_gain c.args.measure c.args.ratio
    (constraints_at c.args.cycle.now.constraints.now c.args.cycle.now.places.now)
    _ _ c.of-sums.ensures.weight c.of-sums.ensures.count
    (λ more. true≢false (sym (c.if-not-exceed.ensures.1 more)))

pub returns-then-sums-eq0 : goal.returns-then-sums-eq0
returns-then-sums-eq0 c =
    never_counts c.args.measure c.args.ratio
    (constraints_at c.args.cycle.now.constraints.now c.args.cycle.now.places.now)
    _ _ c.of-sums.ensures.weight c.of-sums.ensures.count (omega (
      arith,
      ints,
      c.of-sums.ensures.count,
      c.of-sums.result.count_small.below,
      c.if-sums-eq0.true,
    )) (c.if-not-exceed.ensures.0 refl)

pub returns : goal.returns
returns c =
    let cycle = c.args.cycle.now in
    let steps = constraints_at cycle.constraints.now cycle.places.now in
    let long = length-constraints_at cycle.constraints.now cycle.places.now cycle.within in
    let small = small_in c.args.measure steps
    (small_sums cycle.constraints.now cycle.places.now cycle.within cycle.few cycle.small)
    (omega (arith, long, cycle.few)) in
    let sums = c.of-sums.result in
    let some = counts_some sums.count _ c.of-sums.ensures.count
    c.if-sums-eq0.false in
    raised c.args.measure c.args.ratio steps sums.weight sums.count
    c.of-sums.ensures.weight c.of-sums.ensures.count c.of.result small some
    (c.if-not-exceed.ensures.0 refl)
    (rw (same _ sums.count_small, same _ sums.weight_small) at c.of.ensures.value)
    (rw (same _ sums.weight_small) at c.of.ensures.num)
    (rw (same _ sums.count_small) at c.of.ensures.den)
  where
    same : (z : ℤ) → IsBelow (2 ^ 63) z → kept z ≡ z
    same z small = omega (arith, ints, small.above, small.below)
