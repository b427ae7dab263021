-- A product of numbers below 10^20 and 10^16 is below 10^37.
use Rattle.cts_model.proofs.Vocabulary.{◌^◌, subst, sym, arith, w128, ints, to_z-of_z, IsBelow}
use Rattle.cts_model.proofs.ProductLemmas.{product_kept, product_small}
use Rattle.cts_model.proofs.grid.product.Goals as goal

pub overflow_mul-result : goal.overflow_mul-result
overflow_mul-result c =
    let small = product_small c.args.a c.args.b c.requires.a c.requires.b in
    rw (to_z-of_z w128 c.args.a c.ranges.a, to_z-of_z w128 c.args.b c.ranges.b)
    (omega (arith, ints, small.above, small.below))

pub returns-clause-value : goal.returns-clause-value
returns-clause-value c =
    product_kept c.args.a c.args.b c.requires.a c.requires.b c.ranges.a c.ranges.b

pub returns-clause-small : goal.returns-clause-small
returns-clause-small c = subst (IsBelow (10 ^ 37)) (sym (returns-clause-value c))
    (product_small c.args.a c.args.b c.requires.a c.requires.b)
