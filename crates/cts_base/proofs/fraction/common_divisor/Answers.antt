use Rattle.cts_base.proofs.Vocabulary.{◌≡◌, nat_abs, to_z, arith, w128, ints, to_z-of_z}
use Rattle.cts_base.proofs.fraction.common_divisor.Goals as goal

pub returns-clause-greatest : goal.returns-clause-greatest
returns-clause-greatest c =
    let size : nat_abs (to_z w128 c.gcd.result) ≡ c.gcd.result = omega (arith, ints) in
    let num_is = to_z-of_z w128 c.args.num c.ranges.num in
    let den_is = to_z-of_z w128 c.args.den c.ranges.den in
    let prefix = c.unsigned_abs.ensures.value in
    let back = c.unsigned_abs-2.ensures.value in
    rw size (rw (prefix, back, num_is, den_is) at c.gcd.ensures.greatest)
