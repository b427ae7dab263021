use Rattle.cts_base.proofs.Vocabulary.{rules, w128, to_z-of_z}
use Rattle.cts_base.proofs.GreatestDivisors.{quotient_text_is}
use Rattle.cts_base.proofs.fraction.push_quotient.Goals as goal

pub returns-clause-ok : goal.returns-clause-ok
returns-clause-ok c =
    let num_is = to_z-of_z w128 c.args.num c.ranges.num in
    let den_is = to_z-of_z w128 c.args.den c.ranges.den in
    let value = rw (num_is, den_is) at c.of.ensures.value in
    let same = quotient_text_is c.args.num c.args.den c.of.result c.requires.some_den value in
    rw (← same) (search rules)
