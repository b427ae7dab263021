-- The delay of one gate more.
use Rattle.cert_check.proofs.Vocabulary.{arith, ints}
use Rattle.cert_check.proofs.WalkLemmas.{sum_next}
use Rattle.cert_check.proofs.delay.Gates.through.Goals as goal

pub loop-place-preserved : goal.loop-place-preserved
loop-place-preserved c =
    let self = c.args.self.now in
    let by = c.loop-place.invariant in
    let delay = c.delay_at.ensures in
    let fits = c.delay_at.type_inv in
    sum_next self.circuit.now self.tech.now c.args.greatest self.gates.now c.loop-place.place 0
    _ _ c.loop-place-test.true
    (record { above = omega (arith, ints, delay, fits); below = omega (arith, ints, delay, fits) })
    (omega (arith, ints, by.above, by.below, self.few, delay, fits, c.loop-place-test.true)) by
