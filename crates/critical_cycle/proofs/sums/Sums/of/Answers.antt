-- One constraint more is added to both sums, and what they come to in the measure is small.
use Rattle.critical_cycle.proofs.Vocabulary.{◌≡◌, ◌∙◌, ◌≤◌, ◌^◌, ℕ, ℤ, pos, ◌-ℤ◌, ◌*ℤ◌, false, List, length, take, ap, arith, ints, Constraint, IsBelow, total_count, total_weight, Measure, constraints_at, cycle_weight, kept}
use Rattle.critical_cycle.specs.declared.cycle.Cycle.{Cycle}
use Rattle.std.proofs.Common.{take_all}
use Rattle.critical_cycle.proofs.PlaceLemmas.{length-constraints_at}
use Rattle.critical_cycle.proofs.SumLemmas.{weight_more, count_more, part_small, small_sums}
use Rattle.critical_cycle.proofs.MeasureLemmas.{counted, most_small, period_small, scale_small, small_in, weighed}
use Rattle.critical_cycle.proofs.ProductLemmas.{products_fit, products_read}
use Rattle.critical_cycle.proofs.sums.Sums.of.Goals.{then-constraint, else-constraint, then-measure, else-measure}
use Rattle.critical_cycle.proofs.sums.Sums.of.Goals as goal

-- the constraints of a cycle
abbrev steps_of : Cycle → List Constraint
steps_of cycle = constraints_at cycle.constraints.now cycle.places.now

-- what they weigh in ticks, and how many of them are setup constraints
record AreSums (cycle : Cycle) (ticks setups : ℤ) : Type 0 where
  weighs : ticks ≡ total_weight (steps_of cycle)
  counts : setups ≡ pos (total_count (steps_of cycle))
  ticks_small : IsBelow (2 ^ 63) ticks
  setups_small : IsBelow (2 ^ 63) setups

-- they are what the loop leaves
sums_are : (cycle : Cycle) (i : ℕ) (ticks setups : ℤ) → length cycle.places.now ≤ i
    → ticks ≡ total_weight (constraints_at cycle.constraints.now (take i cycle.places.now))
    → setups ≡ pos (total_count (constraints_at cycle.constraints.now (take i cycle.places.now)))
    → AreSums cycle ticks setups
sums_are cycle i ticks setups ends weighs counts =
    let whole : take i cycle.places.now ≡ cycle.places.now = take_all i cycle.places.now ends in
    let small = part_small cycle.constraints.now cycle.places.now i cycle.within cycle.few
    cycle.small in
    record {
      weighs = rw whole at weighs;
      counts = rw whole at counts;
      ticks_small = record {
        above = omega (arith, ints, small.above, small.below, weighs);
        below = omega (arith, ints, small.above, small.below, weighs);
      };
      setups_small = record {
        above = omega (arith, ints, small.count, counts);
        below = omega (arith, ints, small.count, counts);
      };
    }

-- the code's difference of the products with the measure's numbers is what the cycle weighs
weight_is : (measure : Measure) (cycle : Cycle) (ticks setups first second : ℤ)
    → AreSums cycle ticks setups → first ≡ kept measure.scale *ℤ ticks
    → second ≡ kept measure.period *ℤ setups → IsBelow (2 ^ 126) first → IsBelow (2 ^ 126) second
    → kept (kept first -ℤ kept second) ≡ cycle_weight measure (steps_of cycle)
weight_is measure cycle ticks setups first second sums is other first_small second_small =
    products_read first second first_small second_small ∙ weighed measure (steps_of cycle) ticks
    setups sums.weighs sums.counts (first -ℤ second) (ap (λ z. z -ℤ second)
    (is ∙ ap (λ z. z *ℤ ticks) (same measure.scale (scale_small measure)))
    ∙ ap (λ z. (measure.scale *ℤ ticks) -ℤ z)
    (other ∙ ap (λ z. z *ℤ setups) (same measure.period (period_small measure))))
  where
    same : (z : ℤ) → IsBelow (2 ^ 63) z → kept z ≡ z
    same z small = omega (arith, ints, small.above, small.below)

-- which is small
weight_small : (measure : Measure) (cycle : Cycle)
    → IsBelow (2 ^ 63) (cycle_weight measure (steps_of cycle))
weight_small measure cycle =
    let long = length-constraints_at cycle.constraints.now cycle.places.now cycle.within in
    let small = small_in measure (steps_of cycle)
    (small_sums cycle.constraints.now cycle.places.now cycle.within cycle.few cycle.small)
    (omega (arith, long, cycle.few)) in
    most_small measure (cycle_weight measure (steps_of cycle)) small.above small.below

pub overflow_add-ticks : goal.overflow_add-ticks
overflow_add-ticks c =
    let cycle = c.args.cycle.now in
    let place = c.loop-place.place-index in
    let sums = part_small cycle.constraints.now cycle.places.now place cycle.within cycle.few
    cycle.small in
    let d : Constraint = record { setup = false; tail = 0; head = 0; weight = pos 0 } in
    let one = cycle.small _ d (cycle.within place 0 c.loop-place-test.true) in
    omega (arith, ints, sums.above, sums.below, c.loop-place.invariant.0, one.above, one.below)

pub overflow_add-setups : goal.overflow_add-setups
overflow_add-setups c =
    let cycle = c.args.cycle.now in
    let sums = part_small cycle.constraints.now cycle.places.now c.loop-place.place-index
    cycle.within cycle.few cycle.small in
    elim c.if-constraint.branch [
      | then-constraint w ↦ omega (arith, ints, sums.count, c.loop-place.invariant.1, w.setups-is)
      | else-constraint w ↦ omega (arith, ints, sums.count, c.loop-place.invariant.1, w.setups-is)
    ]

pub loop-place-preserved : goal.loop-place-preserved
loop-place-preserved c =
    let cycle = c.args.cycle.now in
    let place = c.loop-place.place-index in
    let sums = part_small cycle.constraints.now cycle.places.now place cycle.within cycle.few
    cycle.small in
    let d : Constraint = record { setup = false; tail = 0; head = 0; weight = pos 0 } in
    let one = cycle.small _ d (cycle.within place 0 c.loop-place-test.true) in (
      weight_more cycle.constraints.now cycle.places.now place d _ _ c.loop-place-test.true
          cycle.within c.loop-place.invariant.0 (omega (
            arith,
            ints,
            sums.above,
            sums.below,
            c.loop-place.invariant.0,
            one.above,
            one.below,
          )),
      count_more cycle.constraints.now cycle.places.now place d _ _ c.loop-place-test.true
          cycle.within c.loop-place.invariant.1 (elim c.if-constraint.branch [
            | then-constraint w ↦ rw w.if-constraint.true
                (omega (arith, ints, sums.count, c.loop-place.invariant.1, w.setups-is))
            | else-constraint w ↦ rw w.if-constraint.false
                (omega (arith, ints, sums.count, c.loop-place.invariant.1, w.setups-is))
          ]),
    )

pub product-requires-clause-b : goal.product-requires-clause-b
product-requires-clause-b c =
    (sums_are c.args.cycle.now _ _ _ c.loop-place-test.false c.loop-place.invariant.0
    c.loop-place.invariant.1).ticks_small

pub product-requires-2-clause-b : goal.product-requires-2-clause-b
product-requires-2-clause-b c =
    (sums_are c.args.cycle.now _ _ _ c.loop-place-test.false c.loop-place.invariant.0
    c.loop-place.invariant.1).setups_small

pub overflow_sub-result : goal.overflow_sub-result
overflow_sub-result c = products_fit
    c.product.result c.product-2.result c.product.ensures.small c.product-2.ensures.small

pub invariant_of-result : goal.invariant_of-result
invariant_of-result c =
    let cycle = c.args.cycle.now in
    let sums = sums_are cycle _ _ _ c.loop-place-test.false c.loop-place.invariant.0
    c.loop-place.invariant.1 in
    let weight = weight_is c.args.measure cycle _ _ _ _ sums c.product.ensures.value
    c.product-2.ensures.value c.product.ensures.small c.product-2.ensures.small in
    record {
      weight_small = rw weight (weight_small c.args.measure cycle);
      count_small = elim c.if-measure.branch [
        | then-measure w ↦ record {
          above = omega (arith, ints, cycle.few, w.result-is);
          below = omega (arith, ints, cycle.few, w.result-is);
        }
        | else-measure w ↦ rw w.result-is sums.setups_small
      ];
    }

pub returns-clause-weight : goal.returns-clause-weight
returns-clause-weight c = weight_is c.args.measure c.args.cycle.now _ _ _ _
    (sums_are c.args.cycle.now _ _ _ c.loop-place-test.false c.loop-place.invariant.0
    c.loop-place.invariant.1) c.product.ensures.value c.product-2.ensures.value
    c.product.ensures.small c.product-2.ensures.small

pub returns-clause-count : goal.returns-clause-count
returns-clause-count c =
    let cycle = c.args.cycle.now in
    let sums = sums_are cycle _ _ _ c.loop-place-test.false c.loop-place.invariant.0
    c.loop-place.invariant.1 in
    counted c.args.measure (steps_of cycle) _ _ sums.weighs sums.counts (length cycle.places.now) _
    (length-constraints_at cycle.constraints.now cycle.places.now cycle.within)
    (elim c.if-measure.branch [
      | then-measure w ↦ rw w.if-measure.true (omega (arith, ints, cycle.few, w.result-is))
      | else-measure w ↦ rw w.if-measure.false w.result-is
    ])
