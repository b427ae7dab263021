use Rattle.place_down.proofs.Vocabulary.{◌+◌, inl, inr, length, refl, arith, ints, to_z-of_z, w128, rotated, made_parent, merge_here, kept}
use Rattle.place_down.proofs.RegionBounds.{below_more, point_below}
use Rattle.place_down.proofs.Standing.{IsReady, can_settle, joined_above, joined_stand, ready, ready_still}
use Rattle.place_down.proofs.top_down.settle_joined.Goals as goal
use Rattle.place_down.proofs.top_down.settle_joined.Goals.{After-place, After-to_uv-at}

-- the merge is ready
is_ready : (c : After-place) → IsReady c.requires.sinks c.requires.topology c.args.work.now
    (length c.args.sinks.now + c.args.place) c.reach-reach.result (rotated c.place.result)
is_ready c = ready c.requires.sinks c.requires.topology c.args.place c.reach-reach.result
    c.place.result c.requires.within c.requires.stand c.reach-reach.ensures.value
    c.place.ensures.value

-- also by what the code has read
is_read : (c : After-to_uv-at) → IsReady c.requires.sinks c.requires.topology c.args.work.now
    (length c.args.sinks.now + c.args.place) (kept c.reach-reach.result) c.to_uv-at.result
is_read c =
    let is = is_ready (goal.at.After-to_uv-at c).After-place in
    let reach = to_z-of_z w128 c.reach-reach.result (omega (arith, ints, is.small)) in
    rw (reach, c.to_uv-at.ensures.value) is

pub to_uv-at-requires : goal.to_uv-at-requires
to_uv-at-requires c =
    let is = is_ready (goal.at.to_uv-at-requires c).After-place in
    let small = point_below c.place.result is.below in
    record {
      x = below_more (omega arith) small.x;
      y = below_more (omega arith) small.y;
    }

pub settle_below-requires : goal.settle_below-requires
settle_below-requires c =
    let is = is_read (goal.at.settle_below-requires c).After-to_uv-at in
    let merges = c.args.topology.now.merges in
    rw c.as_slice.ensures (can_settle c.requires.sinks c.requires.topology is
    (made_parent (length c.args.sinks.now) merges c.args.place _
    (merge_here merges c.args.place c.requires.within) _ (inl refl)))

pub settle_below-requires-2 : goal.settle_below-requires-2
settle_below-requires-2 c =
    let is = is_read (goal.at.settle_below-requires-2 c).After-to_uv-at in
    let merges = c.args.topology.now.merges in
    let here = merge_here merges c.args.place c.requires.within in
    rw c.as_slice.ensures (can_settle c.requires.sinks c.requires.topology
    (ready_still c.requires.sinks c.requires.topology is
    (made_parent (length c.args.sinks.now) merges c.args.place _ here _ (inl refl))
    (rw c.as_slice.ensures at c.settle_below.ensures))
    (made_parent (length c.args.sinks.now) merges c.args.place _ here _ (inr refl)))

pub returns-clause-stand : goal.returns-clause-stand
returns-clause-stand c =
    joined_stand c.requires.sinks c.requires.topology c.args.place c.requires.within
    c.requires.stand (is_read (goal.at.returns-clause-stand c).After-to_uv-at)
    (rw c.as_slice.ensures at c.settle_below.ensures)
    (rw c.as_slice.ensures at c.settle_below-2.ensures)

pub returns-clause-stays : goal.returns-clause-stays
returns-clause-stays c =
    joined_above c.requires.sinks c.requires.topology c.args.place c.requires.within
    c.requires.stand (is_read (goal.at.returns-clause-stays c).After-to_uv-at)
    (rw c.as_slice.ensures at c.settle_below.ensures)
    (rw c.as_slice.ensures at c.settle_below-2.ensures)
