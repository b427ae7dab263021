use Rattle.place_down.proofs.Vocabulary.{◌≡◌, ◌+ℤ◌, FitsSigned, ap, ◌∙◌, arith, ints, to_z-of_z, w128, rotated, rotated_distance, sum_read}
use Rattle.place_down.proofs.SourceLemmas.{far_below, far_multiple}
use Rattle.place_down.proofs.source.reach_to.Goals as goal
use Rattle.place_down.proofs.source.reach_to.Goals.{After-manhattan}

-- how far the source is
way_is : (c : After-manhattan)
    → c.manhattan.result ≡ rotated_distance (rotated c.args.source) c.args.sink.at
way_is c = c.manhattan.ensures.rotated
    ∙ ap (rotated_distance (rotated c.args.source)) c.to_point.ensures.back

-- both numbers and their sum are those that the code's numbers hold
fits : (c : After-manhattan) → FitsSigned w128 c.args.sink.offset
    × FitsSigned w128 c.manhattan.result
    × FitsSigned w128 (c.args.sink.offset +ℤ c.manhattan.result)
fits c =
    let far = far_below c.args.sink (rotated c.args.source) c.requires.sink c.requires.source in
    let below = c.requires.sink.offset_below in (
      omega (arith, ints, below),
      omega (arith, ints, below, far, way_is c),
      omega (arith, ints, far, way_is c),
    )

pub overflow_add-result : goal.overflow_add-result
overflow_add-result c =
    let (first, second, both) = fits (goal.at.overflow_add-result c).After-manhattan in
    rw (to_z-of_z w128 c.args.sink.offset first, to_z-of_z w128 c.manhattan.result second) both

pub returns-clause-value : goal.returns-clause-value
returns-clause-value c =
    let (first, second, both) = fits (goal.at.returns-clause-value c).After-manhattan in
    sum_read c.args.sink.offset c.manhattan.result first second both
    ∙ ap (λ z. c.args.sink.offset +ℤ z) (way_is (goal.at.returns-clause-value c).After-manhattan)

pub returns-clause-below : goal.returns-clause-below
returns-clause-below c = rw (returns-clause-value c)
    (far_below c.args.sink (rotated c.args.source) c.requires.sink c.requires.source)

pub returns-clause-multiple : goal.returns-clause-multiple
returns-clause-multiple c = rw (returns-clause-value c)
    (far_multiple c.args.sink (rotated c.args.source) c.requires.sink c.requires.source)
