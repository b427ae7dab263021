-- Products are small, so the code's numbers are the same.
use Rattle.critical_cycle.proofs.MeasureLemmas.{hold_read, scale_read, setup_read, trial_small}
use Rattle.critical_cycle.proofs.measure.Measure.trial.Goals as goal

pub invariant_of-result : goal.invariant_of-result
invariant_of-result c =
    let measure = c.args.self in
    let ratio = c.args.ratio in
    let scale = scale_read measure ratio c.requires c.den.result c.product.result
    c.den.ensures.value c.product.ensures.value in
    let setup = setup_read measure ratio c.requires c.den-2.result c.num.result c.product-2.result
    c.den-2.ensures.value c.num.ensures.value c.product-2.ensures.value c.product-2.ensures.small in
    let hold = hold_read measure ratio c.requires c.counted_by_hold.result
    c.counted_by_hold.ensures in
    record { valid = rw (scale, setup, hold) (trial_small measure ratio c.requires) }

pub returns : goal.returns
returns c =
    let measure = c.args.self in
    let ratio = c.args.ratio in
    record {
      scale_is = scale_read measure ratio c.requires c.den.result c.product.result
          c.den.ensures.value c.product.ensures.value;
      setup_is = setup_read measure ratio c.requires c.den-2.result c.num.result
          c.product-2.result c.den-2.ensures.value c.num.ensures.value c.product-2.ensures.value
          c.product-2.ensures.small;
      hold_is = hold_read measure ratio c.requires c.counted_by_hold.result
          c.counted_by_hold.ensures;
    }
