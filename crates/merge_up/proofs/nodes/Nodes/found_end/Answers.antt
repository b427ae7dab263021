use Rattle.merge_up.proofs.Vocabulary.{◌+◌, IfSome, length, subst, refl, to_z-of_z, w128, numbers_below, sinks_below, IsGreatest, kept, IsSoFar, far_to, furthest_to}
use Rattle.merge_up.proofs.SearchLemmas.{end_so_far, far_below, greatest_held, greatest_read, some_so_far, some_unless}
use Rattle.merge_up.proofs.nodes.Nodes.found_end.Goals as goal
use Rattle.merge_up.proofs.nodes.Nodes.found_end.Goals.{After-furthest-far}

pub furthest-far-requires : goal.furthest-far-requires
furthest-far-requires c =
    let nodes = c.args.self.now in
    rw (to_z-of_z w128 c.reach.result (record { sfits = c.reach.type_inv }))
    (far_below nodes.sinks.now nodes.merges.now (length nodes.sinks.now + c.args.place) c.args.side
    (furthest_to c.args.side c.region.result c.reach.result)
    (greatest_held nodes.sinks.now nodes.merges.now nodes.work.now c.args.place c.region.result
    c.reach.result c.args.side c.requires.held c.region.ensures.value c.reach.ensures.value)
    nodes.are_sinks)

-- how far the furthest sink is, as the code's numbers hold it
greatest : (c : After-furthest-far) → IsGreatest (far_to c.args.side)
    (sinks_below c.args.self.now.sinks.now c.args.self.now.merges.now
    (length c.args.self.now.sinks.now + c.args.place)) (kept c.furthest-far.result)
greatest c =
    let nodes = c.args.self.now in
    greatest_read nodes.sinks.now nodes.merges.now nodes.work.now c.args.place c.region.result
    c.reach.result c.args.side c.requires.held c.region.ensures.value c.reach.ensures.value
    c.furthest-far.result (record { sfits = c.reach.type_inv })
    (record { sfits = c.furthest-far.type_inv }) c.furthest-far.ensures

pub unwrap-requires : goal.unwrap-requires
unwrap-requires c =
    let nodes = c.args.self.now in
    let (register, is) = some_so_far nodes.sinks.now nodes.merges.now
    (length nodes.sinks.now + c.args.place) c.args.side (kept c.furthest-far.result)
    (greatest (goal.at.unwrap-requires c).After-furthest-far) in
    some_unless c.find.result (λ none. c.find.ensures.none none register is)

pub invariant_of-result : goal.invariant_of-result
invariant_of-result c =
    let nodes = c.args.self.now in
    record {
      valid = far_below nodes.sinks.now nodes.merges.now (length nodes.sinks.now + c.args.place)
          c.args.side (kept c.furthest-far.result)
          (greatest (goal.at.invariant_of-result c).After-furthest-far) nodes.are_sinks;
    }

pub returns : goal.returns
returns c =
    let nodes = c.args.self.now in
    let node = length nodes.sinks.now + c.args.place in
    let far = kept c.furthest-far.result in
    end_so_far nodes.sinks.now nodes.merges.now node c.args.side far
    (greatest (goal.at.returns c).After-furthest-far) _ refl
    (subst (λ found. IfSome found (IsSoFar nodes.sinks.now
    (numbers_below (length nodes.sinks.now) nodes.merges.now node) c.args.side far))
    c.unwrap.ensures c.find.ensures.found)
