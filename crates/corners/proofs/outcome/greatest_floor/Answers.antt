-- A turn takes in one floor more.
use Rattle.corners.proofs.Vocabulary.{◌≡◌, ◌+◌, get_or, subst, sym, to_z, of_z, arith, int_max, w128, ints}
use Rattle.corners.proofs.FloorLemmas.{IsGreatestSoFar, greatest_none, greatest_next, greatest_of_all, small_floor}
use Rattle.corners.proofs.outcome.greatest_floor.Goals as goal

pub loop-tech-init : goal.loop-tech-init
loop-tech-init c =
    let first = get_or c.args.techs.now 0 c.index-techs-0.result in
    let kept : to_z w128 (of_z w128 first.floor) ≡ first.floor =
    omega (arith, ints, first.valid.floor_within) in
    rw kept (greatest_none c.args.techs.now c.index-techs-0.result c.requires)

pub loop-tech-preserved : goal.loop-tech-preserved
loop-tech-preserved c =
    let techs = c.args.techs.now in
    let corner = c.loop-tech.tech-index in
    let greatest = to_z w128 c.loop-tech.greatest-bits in
    let tech = c.tech-item.result in
    let kept : to_z w128 (of_z w128 c.max-greatest.result) ≡ c.max-greatest.result =
    omega (arith, ints, c.max-greatest.type_inv) in
    let floor : to_z w128 (of_z w128 tech.floor) ≡ tech.floor =
    omega (arith, ints, tech.valid.floor_within) in
    rw (kept, c.max-greatest.ensures.value, floor)
    (subst (λ one. IsGreatestSoFar techs (corner + 1) (int_max greatest one.floor))
    (sym c.tech-item.is)
    (greatest_next techs corner greatest tech c.loop-tech-test.true c.loop-tech.invariant))

pub returns-clause-greatest : goal.returns-clause-greatest
returns-clause-greatest c = search (arith, greatest_of_all)

pub returns-clause-small : goal.returns-clause-small
returns-clause-small c = search (arith, small_floor)
