use Rattle.merge_up.proofs.Vocabulary.{arith, ints, below_fits, difference_read, sum_read}
use Rattle.merge_up.proofs.side.Side.furthest.Goals as goal

pub returns-in-HighU : goal.returns-in-HighU
returns-in-HighU c =
    let far = rw c.in-HighU.is at c.requires in
    rw c.in-HighU.is (sum_read c.args.region.ulo c.args.reach
    (below_fits c.args.region.ulo c.args.region.valid.least_u.below) c.ranges.reach
    (omega (arith, ints, far.below)))

pub returns-in-LowU : goal.returns-in-LowU
returns-in-LowU c =
    let far = rw c.in-LowU.is at c.requires in
    rw c.in-LowU.is (difference_read c.args.reach c.args.region.uhi
    c.ranges.reach (below_fits c.args.region.uhi c.args.region.valid.greatest_u.below)
    (omega (arith, ints, far.below)))

pub returns-in-HighV : goal.returns-in-HighV
returns-in-HighV c =
    let far = rw c.in-HighV.is at c.requires in
    rw c.in-HighV.is (sum_read c.args.region.vlo c.args.reach
    (below_fits c.args.region.vlo c.args.region.valid.least_v.below) c.ranges.reach
    (omega (arith, ints, far.below)))

pub returns-in-LowV : goal.returns-in-LowV
returns-in-LowV c =
    let far = rw c.in-LowV.is at c.requires in
    rw c.in-LowV.is (difference_read c.args.reach c.args.region.vhi
    c.ranges.reach (below_fits c.args.region.vhi c.args.region.valid.greatest_v.below)
    (omega (arith, ints, far.below)))
