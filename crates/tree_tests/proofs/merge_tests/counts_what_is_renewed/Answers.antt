use Rattle.tree_tests.proofs.Vocabulary.{◌≡◌, ◌-◌, ◌∙◌, length, sym, ap, subst, arith, length-set, IsTopology, IsMerged, IsRenewed}
use Rattle.tree_tests.proofs.HeldForOthers.{joined_held, JoinsAt, held_lower, tree_sinks_set}
use Rattle.tree_tests.proofs.merge_tests.counts_what_is_renewed.Goals as goal

pub renew-requires-clause-sinks : goal.renew-requires-clause-sinks
renew-requires-clause-sinks g c = tree_sinks_set c.sinks_of-sinks.result.items
    c.deref-2.result.now 0 c.sink-moved.result
    (c.deref-2.ensures.value ∙ c.move_first.ensures) c.sink-moved.ensures
    c.sinks_of-sinks.ensures.sinks

pub renew-requires-clause-joined : goal.renew-requires-clause-joined
renew-requires-clause-joined g c =
    let sinks = c.sinks_of-sinks.result.items in
    let others = c.deref-2.result.now in
    let merges = c.topology_of-topology.result.merges in
    let moved = c.sink-moved.result in
    let four : length sinks ≡ 4 = omega (arith, c.sinks_of-sinks.ensures.count) in
    let count : length others ≡ 4 =
    ap length (c.deref-2.ensures.value ∙ c.move_first.ensures)
    ∙ length-set sinks 0 moved ∙ four in
    joined_held others merges 0 c.set_sink.new.self
    (subst (λ n. IsTopology n merges) (sym count) c.topology_of-topology.ensures.topology)
    (λ lower before. absurd (omega (arith, before))) 4 (omega (arith, count))

pub renew-requires-2-clause-sinks : goal.renew-requires-2-clause-sinks
renew-requires-2-clause-sinks g c = tree_sinks_set c.sinks_of-sinks.result.items
    c.deref-3.result.now 0 c.sink-moved.result
    (c.deref-3.ensures.value ∙ c.move_first.ensures) c.sink-moved.ensures
    c.sinks_of-sinks.ensures.sinks

pub renew-requires-2-clause-joined : goal.renew-requires-2-clause-joined
renew-requires-2-clause-joined g c =
    let sinks = c.sinks_of-sinks.result.items in
    let others = c.deref-3.result.now in
    let merges = c.topology_of-topology.result.merges in
    let moved = c.sink-moved.result in
    let topology : IsTopology 4 merges = c.topology_of-topology.ensures.topology in
    let four : length sinks ≡ 4 = omega (arith, c.sinks_of-sinks.ensures.count) in
    let is = c.deref-3.ensures.value ∙ c.move_first.ensures in
    let count : length others ≡ 4 = ap length is ∙ length-set sinks 0 moved ∙ four in
    let joins : JoinsAt merges 1 2 3 =
    subst (λ list. JoinsAt list 1 2 3) c.as_slice.ensures c.expect_second.ensures in
    let merged : IsMerged sinks merges c.merge.new.work =
    subst (λ list. IsMerged list merges c.merge.new.work) c.deref.ensures.value
    c.merge.ensures.merged in
    let renewed : IsRenewed others merges (4 - length others) c.set_sink.new.self c.renew.new.self =
    subst (λ list. IsRenewed list merges (4 - length list) c.set_sink.new.self c.renew.new.self)
    (c.deref-2.ensures.value ∙ sym c.deref-3.ensures.value) c.renew.ensures in
    joined_held others merges 2 c.renew.new.self
    (subst (λ n. IsTopology n merges) (sym count) topology)
    (held_lower sinks others merges moved c.merge.new.work c.set_sink.new.self c.renew.new.self four
    topology is joins (merged.of_merges 1 (omega (arith, topology.all))) c.set_sink.ensures
    (subst (λ place. IsRenewed others merges place c.set_sink.new.self c.renew.new.self)
    (omega (arith, count)) renewed)) 6 (omega (arith, count))
