use Rattle.cts_base.proofs.Vocabulary.{◌≡◌, FitsSigned, pos, to_z, of_z, arith, rules, w128, ints, to_z-of_z}
use Rattle.cts_base.proofs.Quotients.{int_div-le, lowest_quotients, quotient_is, same_value, whole_lowest}
use Rattle.cts_base.proofs.fraction.Fraction.of.Goals as goal

pub invariant_of-result : goal.invariant_of-result
invariant_of-result c =
    let one : to_z w128 (of_z w128 c.args.den) ≡ pos 1 = omega (arith, ints) in
    rw one (record { lowest = whole_lowest (to_z w128 (of_z w128 c.args.num)) })

pub invariant_of-result-2 : goal.invariant_of-result-2
invariant_of-result-2 c =
    let divisor = c.common_divisor-divisor in
    let some = divisor.ensures.some in
    let fits : FitsSigned w128 divisor.result = search rules in
    let num_is = to_z-of_z w128 c.args.num c.ranges.num in
    let den_is = to_z-of_z w128 c.args.den c.ranges.den in
    let greatest = rw (num_is, den_is) at divisor.ensures.greatest in
    let prefix = quotient_is c.args.num divisor.result c.ranges.num fits some in
    let back = quotient_is c.args.den divisor.result c.ranges.den fits some in
    let some_den = c.requires.some_den in
    rw (prefix, back) (record {
      lowest = lowest_quotients c.args.num c.args.den divisor.result some_den some greatest;
    })

pub returns-clause-value : goal.returns-clause-value
returns-clause-value c =
    let divisor = c.common_divisor-divisor in
    let some = divisor.ensures.some in
    let fits : FitsSigned w128 divisor.result = search rules in
    let num_is = to_z-of_z w128 c.args.num c.ranges.num in
    let den_is = to_z-of_z w128 c.args.den c.ranges.den in
    let greatest = rw (num_is, den_is) at divisor.ensures.greatest in
    let prefix = quotient_is c.args.num divisor.result c.ranges.num fits some in
    let back = quotient_is c.args.den divisor.result c.ranges.den fits some in
    rw (prefix, back)
    (same_value c.args.num c.args.den divisor.result c.requires.some_den some greatest)

pub returns-clause-num : goal.returns-clause-num
returns-clause-num c =
    let divisor = c.common_divisor-divisor in
    let some = divisor.ensures.some in
    let fits : FitsSigned w128 divisor.result = search rules in
    let prefix = quotient_is c.args.num divisor.result c.ranges.num fits some in
    rw prefix (int_div-le c.args.num divisor.result some)
