-- The lanes have the sums along the paths of the constraints.
use Rattle.path_delays.proofs.Vocabulary.{◌≡◌, ◌<◌, ◌∙◌, Some, length, take, get_or, ap, arith, cases_lt, length-set, length-take, get_or-set_other, get_or-set_same, get_or-take, get_or_default, get_or_from_slice_get, slice_get-get_or, slice_get_within, pair_of}
use Rattle.path_delays.proofs.CyclePathLemmas.{pair_within}
use Rattle.path_delays.proofs.cycle_paths.walk_along.Goals as goal

pub walk_between-requires-clause-pairs : goal.walk_between-requires-clause-pairs
walk_between-requires-clause-pairs c place default inside =
    grind (arith, length-take, get_or-take, get_or_default)

pub returns-clause-reach : goal.returns-clause-reach
returns-clause-reach c some lane constraint here =
    let block = c.args.block.now.items.now in
    let count = length block in
    let pairs = c.loop-lane.pairs in
    let short = slice_get_within block lane constraint here in
    let covered = length-take count pairs in
    let inside : lane < length (take count pairs) =
    omega (arith, covered, c.loop-lane.invariant.lanes, c.args.block.now.few) in
    let value : get_or (take count pairs) lane (0, 0) ≡ pair_of constraint =
    get_or-take count pairs lane (0, 0) short
    ∙ c.loop-lane.invariant.each lane constraint (omega (arith, c.loop-lane-test.false)) here in
    c.walk_between.ensures.reach lane (pair_of constraint).0 (pair_of constraint).1
    (slice_get-get_or (take count pairs) lane (0, 0) inside ∙ ap Some value)

pub loop-lane-preserved : goal.loop-lane-preserved
loop-lane-preserved c =
    grind (
      arith,
      get_or-set_same,
      length-set,
      cases_lt,
      get_or-set_other,
      get_or_from_slice_get,
      pair_within,
    )
