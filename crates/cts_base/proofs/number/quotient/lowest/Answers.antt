use Rattle.cts_base.proofs.Vocabulary.{◌≡◌, arith, w128, ints, to_z-of_z}
use Rattle.cts_base.proofs.FractionReading.{same_above}
use Rattle.cts_base.proofs.OneFraction.{one_fraction}
use Rattle.cts_base.proofs.number.quotient.lowest.Goals as goal

pub returns-then-den-clause-some : goal.returns-then-den-clause-some
returns-then-den-clause-some c =
    let num_is = to_z-of_z w128 c.args.num c.ranges.num in
    let den_is = to_z-of_z w128 c.args.den c.ranges.den in
    let fraction = c.of-fraction.result in
    let value = rw (num_is, den_is) at c.of-fraction.ensures.value in
    let same : fraction.den ≡ c.args.den = grind (arith, ints) in
    let above = same_above c.args.num c.args.den fraction.num fraction.den c.requires.some_den value
    same in
    (above, same)

pub returns-else-den-clause-none : goal.returns-else-den-clause-none
returns-else-den-clause-none c =
    let num_is = to_z-of_z w128 c.args.num c.ranges.num in
    let den_is = to_z-of_z w128 c.args.den c.ranges.den in
    let fraction = c.of-fraction.result in
    let value = rw (num_is, den_is) at c.of-fraction.ensures.value in
    let differs : fraction.den ≡ c.args.den → ⊥ = grind (arith, ints) in
    λ is lowest. differs (one_fraction fraction.num fraction.den c.args.num c.args.den
    fraction.lowest lowest value).1
