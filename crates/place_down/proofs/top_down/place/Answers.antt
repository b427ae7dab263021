use Rattle.place_down.proofs.Vocabulary.{◌≡◌, ◌*◌, ◌^◌, Some, length, pos, slice_get, arith, ints, to_z-of_z, get_or_from_slice_get, w128, IsBelow, IsMultipleOf, root_of, IsSettled, kept, IsTop, HasTreeNumbers, IsPlacedTree, StaysMerged}
use Rattle.place_down.proofs.RegionBounds.{below_more}
use Rattle.place_down.proofs.Standing.{held_small}
use Rattle.place_down.proofs.Placed.{all_placed, can_settle_root, root_stand}
use Rattle.place_down.proofs.top_down.place.Goals as goal
use Rattle.place_down.proofs.top_down.place.Goals.{After-reach, After-settle_merges, After-top_of-top}

-- the root's reach as the code's numbers hold it
root : (c : After-reach) → slice_get c.args.work.now.tree.reach (root_of (length c.args.sinks.now))
    ≡ Some (kept c.reach.result)
root c = rw (to_z-of_z w128 c.reach.result (record { sfits = c.reach.type_inv }))
    c.reach.ensures.value

-- which is small
small : (c : After-reach) → IsBelow (2 * 10 ^ 31) (kept c.reach.result)
    × IsMultipleOf 4 (kept c.reach.result)
small c = rw (← get_or_from_slice_get c.args.work.now.tree.reach (root_of (length c.args.sinks.now))
    (kept c.reach.result) (pos 0) (root c))
    (held_small c.requires.sinks c.requires.topology c.args.work.now c.requires.merged
    (root_of (length c.args.sinks.now)) (omega (arith, c.requires.sinks.some)))

-- and how far the source reaches
top : (c : After-top_of-top) → IsTop c.args.sinks.now c.args.sinks.now c.args.source
    (kept c.reach.result)
    (record { reach = kept c.top_of-top.result.reach; show = c.top_of-top.result.show })
top c = rw (to_z-of_z w128 c.top_of-top.result.reach
    (omega (arith, ints, c.top_of-top.ensures.below))) c.top_of-top.ensures

pub top_of-top-requires-clause-below : goal.top_of-top-requires-clause-below
top_of-top-requires-clause-below c = below_more (omega arith)
    (small (goal.at.top_of-top-requires-clause-below c).After-reach).0

pub top_of-top-requires-clause-multiple : goal.top_of-top-requires-clause-multiple
top_of-top-requires-clause-multiple c =
    (small (goal.at.top_of-top-requires-clause-multiple c).After-reach).1

pub settle_below-requires : goal.settle_below-requires
settle_below-requires c = can_settle_root c.requires.sinks c.requires.topology c.requires.source
    c.reach.ensures.fit c.requires.merged (root (goal.at.settle_below-requires c).After-reach)
    (top (goal.at.settle_below-requires c).After-top_of-top) c.settle_source.ensures

pub settle_merges-requires-clause-stand : goal.settle_merges-requires-clause-stand
settle_merges-requires-clause-stand c = root_stand c.requires.sinks c.requires.topology
    c.requires.source c.reach.ensures.fit c.requires.merged
    (root (goal.at.settle_merges-requires-clause-stand c).After-reach)
    (top (goal.at.settle_merges-requires-clause-stand c).After-top_of-top) c.settle_source.ensures
    c.settle_below.ensures

-- what holds when it returns
all : (c : After-settle_merges) → IsPlacedTree c.args.sinks.now c.args.topology.now.merges
    c.args.source c.settle_merges.new.work.tree c.settle_merges.new.work.shows
    × HasTreeNumbers c.settle_merges.new.work.tree × IsSettled c.settle_merges.new.work
    × StaysMerged c.args.work.now c.settle_merges.new.work
all c = all_placed c.requires.sinks c.requires.topology c.requires.source c.reach.ensures.fit
    c.requires.merged (root (goal.at.After-settle_merges c).After-reach)
    (top (goal.at.After-settle_merges c).After-top_of-top) c.settle_source.ensures
    c.settle_below.ensures c.settle_merges.ensures.stand c.settle_merges.ensures.stays

pub returns-clause-tree : goal.returns-clause-tree
returns-clause-tree c = (all c).0

pub returns-clause-numbers : goal.returns-clause-numbers
returns-clause-numbers c = (all c).1

pub returns-clause-settled : goal.returns-clause-settled
returns-clause-settled c = (all c).2

pub returns-clause-stays : goal.returns-clause-stays
returns-clause-stays c = (all c).3
