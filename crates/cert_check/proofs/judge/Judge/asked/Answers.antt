-- The products are taken as they are.
use Rattle.cert_check.proofs.Vocabulary.{◌∙◌, arith, ints, to_z-of_z}
use Rattle.cert_check.proofs.KeptNumbers.{kept_difference}
use Rattle.cert_check.proofs.judge.Judge.asked.Goals as goal

pub overflow_sub-result : goal.overflow_sub-result
overflow_sub-result c = omega (arith, ints, c.product.ensures.small, c.product-2.ensures.small)

pub returns : goal.returns
returns c =
    let kept = kept_difference c.product.result c.product-2.result c.product.ensures.small
    c.product-2.ensures.small in
    kept ∙ search (arith, to_z-of_z, ints)
