use Rattle.critical_cycle.proofs.Vocabulary.{◌*ℤ◌, refl, w128, to_z-of_z}
use Rattle.critical_cycle.proofs.ProductLemmas.{product_fits, product_small}
use Rattle.critical_cycle.proofs.sums.product.Goals as goal

pub returns-clause-value : goal.returns-clause-value
returns-clause-value c =
    let a = c.args.a in
    let b = c.args.b in
    let fits = product_fits a b c.requires.a c.requires.b in
    rw (to_z-of_z w128 a c.ranges.a, to_z-of_z w128 b c.ranges.b, to_z-of_z w128 (a *ℤ b) fits) refl

pub returns-clause-small : goal.returns-clause-small
returns-clause-small c =
    let a = c.args.a in
    let b = c.args.b in
    let fits = product_fits a b c.requires.a c.requires.b in
    rw (to_z-of_z w128 a c.ranges.a, to_z-of_z w128 b c.ranges.b, to_z-of_z w128 (a *ℤ b) fits)
    (product_small a b c.requires.a c.requires.b)
