use Rattle.merge_up.proofs.Vocabulary.{◌∙◌, pos, inl, refl, sym, arith, rules, ints, to_z-of_z, slice_get-get_or, w128, Sink}
use Rattle.merge_up.proofs.SearchLemmas.{alone_so_far, below_neither, if_found, lower_than, order_joins, so_far_above, so_far_alone}
use Rattle.merge_up.proofs.nodes.Nodes.+find.Goals as goal

abbrev no_sink : Sink
no_sink = record { at = record { u = pos 0; v = pos 0 }; offset = pos 0 }

pub returns-then-far-clause-found : goal.returns-then-far-clause-found
returns-then-far-clause-found t c =
    let nodes = c.args.self.now in
    let here = slice_get-get_or nodes.sinks.now c.args.node no_sink c.if-place-self.true in
    so_far_alone nodes.sinks.now nodes.merges.now c.args.side c.args.far c.args.node _
    c.if-place-self.true here (omega (arith, ints, c.if-far.true, c.far.ensures.value))

pub returns-else-far-clause-none : goal.returns-else-far-clause-none
returns-else-far-clause-none t c = λ none register is.
    let nodes = c.args.self.now in
    let here = slice_get-get_or nodes.sinks.now c.args.node no_sink c.if-place-self.true in
    let same = alone_so_far nodes.sinks.now nodes.merges.now c.args.side c.args.far c.args.node _
    c.if-place-self.true here register is in
    absurd (omega (arith, ints, c.if-far.false, c.far.ensures.value, same))

pub in_order-next-requires : goal.in_order-next-requires
in_order-next-requires t c =
    let nodes = c.args.self.now in
    let low = lower_than nodes.sinks.now nodes.merges.now nodes.topology c.args.node
    c.if-place-self.false c.requires _ (inl refl) in
    omega (arith, low, c.requires)

pub find-found-requires : goal.find-found-requires
find-found-requires t c =
    let nodes = c.args.self.now in
    let low = lower_than nodes.sinks.now nodes.merges.now nodes.topology c.args.node
    c.if-place-self.false c.requires c.in_order-next.result.0
    (order_joins _ c.in_order-next.result c.in_order-next.ensures).0 in
    search (rules, low, c.decreases, c.requires)

pub returns-then-is_some-clause-found : goal.returns-then-is_some-clause-found
returns-then-is_some-clause-found t c =
    let nodes = c.args.self.now in
    if_found c.find-found.result (λ register. so_far_above nodes.sinks.now nodes.merges.now
    nodes.topology c.args.node c.if-place-self.false c.requires c.args.side c.args.far register
    c.in_order-next.result.0 (order_joins _ c.in_order-next.result c.in_order-next.ensures).0)
    (rw (to_z-of_z w128 c.args.far c.ranges.far) at c.find-found.ensures.found)

pub find-requires : goal.find-requires
find-requires t c =
    let nodes = c.args.self.now in
    let low = lower_than nodes.sinks.now nodes.merges.now nodes.topology c.args.node
    c.if-place-self.false c.requires c.in_order-next.result.1
    (order_joins _ c.in_order-next.result c.in_order-next.ensures).1 in
    search (rules, low, c.decreases, c.requires)

pub returns-clause-found : goal.returns-clause-found
returns-clause-found t c =
    let nodes = c.args.self.now in
    if_found c.find.result (λ register. so_far_above nodes.sinks.now nodes.merges.now
    nodes.topology c.args.node c.if-place-self.false c.requires c.args.side c.args.far register
    c.in_order-next.result.1 (order_joins _ c.in_order-next.result c.in_order-next.ensures).1)
    (rw (to_z-of_z w128 c.args.far c.ranges.far) at c.find.ensures.found)

pub returns-clause-none : goal.returns-clause-none
returns-clause-none t c = λ none register.
    let nodes = c.args.self.now in
    below_neither nodes.sinks.now nodes.merges.now nodes.topology c.args.node
    c.if-place-self.false c.requires c.args.side c.args.far register c.in_order-next.result
    c.in_order-next.ensures
    (rw (to_z-of_z w128 c.args.far c.ranges.far) at (c.find-found.ensures.none
    (sym c.is_some.ensures ∙ c.if-is_some.false) register))
    (rw (to_z-of_z w128 c.args.far c.ranges.far) at (c.find.ensures.none none register))
