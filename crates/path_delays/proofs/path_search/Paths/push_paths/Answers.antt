-- One path more, and all of the block.
use Rattle.path_delays.proofs.Vocabulary.{arith, slice_get-get_or}
use Rattle.path_delays.proofs.CyclePathLemmas.{keeps_all, keeps_next, keeps_none, pair_within}
use Rattle.path_delays.proofs.path_search.Paths.push_paths.Goals as goal

pub path_within-requires-clause-ranks : goal.path_within-requires-clause-ranks
path_within-requires-clause-ranks c = c.walk_along.ensures.room.network.ranks

pub path_within-requires-clause-to : goal.path_within-requires-clause-to
path_within-requires-clause-to c = (pair_within c.self.inside.circuit.now c.self.inside.tech.now _
    ((rw (← c.self.view_is) at c.requires) c.loop-lane.lane _ c.loop-lane-test.true)).1

pub loop-lane-init : goal.loop-lane-init
loop-lane-init c = grind (arith, keeps_none)

pub loop-lane-preserved : goal.loop-lane-preserved
loop-lane-preserved c =
    let circuit = c.self.inside.circuit.now in
    let tech = c.self.inside.tech.now in
    let block = c.args.block.now.items.now in
    let lane = c.loop-lane.lane in
    let less = c.loop-lane.invariant.less in
    let found = c.in_ok-path.ensures.path tech
    ((rw (← c.self.view_is) at c.requires) lane _ c.loop-lane-test.true)
    (λ some. c.walk_along.ensures.reach (omega (arith, less)) lane _
    (slice_get-get_or block lane _ c.loop-lane-test.true)) in
    record {
      keeps = rw (c.in_ok-push.ensures.ok, c.len-left.ensures)
          (keeps_next circuit tech block c.args.room c.args.paths.now lane c.loop-lane.left
          c.loop-lane.paths c.in_ok-path.path _ c.loop-lane-test.true found
          c.loop-lane.invariant.keeps);
      less = omega (arith, less);
    }

pub returns-clause-paths : goal.returns-clause-paths
returns-clause-paths c = grind (arith, keeps_all)
