-- Scales are above 0 and small, so the product fits.
use Rattle.relaxation.proofs.Vocabulary.{arith, ints}
use Rattle.relaxation.proofs.GainLemmas.{scaled_fits}
use Rattle.relaxation.proofs.relaxation.rescaled.Goals as goal

pub overflow_mul-kept : goal.overflow_mul-kept
overflow_mul-kept c =
    let next = c.args.next.valid in
    scaled_fits c.cut-kept.result c.args.next.scale c.cut-kept.ensures next.some next.fine

pub div_euclid-requires-clause-no_overflow : goal.div_euclid-requires-clause-no_overflow
div_euclid-requires-clause-no_overflow c =
    let last = c.args.last.valid in λ minus_one _. omega (arith, ints, last.some, last.fine, minus_one)
