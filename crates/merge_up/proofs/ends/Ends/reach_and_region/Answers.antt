use Rattle.merge_up.proofs.Vocabulary.{arith, ints}
use Rattle.merge_up.proofs.EndLemmas.{region_of, region_sides}
use Rattle.merge_up.proofs.ends.Ends.reach_and_region.Goals as goal

pub invariant_of-region : goal.invariant_of-region
invariant_of-region c =
    let region = region_of c.args.self c.spread.result c.half-reach.result c.spread.ensures.value
    c.spread.ensures.below c.spread.ensures.multiple (omega (arith, ints, c.half-reach.ensures)) in
    record { valid = region.valid }

pub returns-clause-region : goal.returns-clause-region
returns-clause-region c =
    let sides = region_sides c.args.self c.spread.result c.half-reach.result c.spread.ensures.value
    c.spread.ensures.below c.spread.ensures.multiple (omega (arith, ints, c.half-reach.ensures)) in
    record { ulo = sides.ulo; uhi = sides.uhi; vlo = sides.vlo; vhi = sides.vhi }
