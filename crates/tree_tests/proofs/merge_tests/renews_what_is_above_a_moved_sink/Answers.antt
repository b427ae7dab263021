use Rattle.tree_tests.proofs.Vocabulary.{◌≡◌, ◌-◌, ◌∙◌, length, sym, subst, arith, IsTopology, HoldsMerge}
use Rattle.tree_tests.proofs.HeldForOthers.{joined_held}
use Rattle.tree_tests.proofs.merge_tests.renews_what_is_above_a_moved_sink.Goals as goal

pub renew-requires-clause-joined : goal.renew-requires-clause-joined
renew-requires-clause-joined g c =
    let sinks = c.deref-2.result.now in
    let merges = c.topology_of-topology.result.merges in
    let count : length sinks ≡ 3 = omega (
      arith,
      c.deref-2.ensures.len,
      c.sinks_of-after.ensures.count,
      c.sinks_of-after.result.ok.0,
    ) in
    joined_held sinks merges 0 c.set_sink.new.self (subst (λ n. IsTopology n merges) (sym count)
    c.topology_of-topology.ensures.topology)
    (λ lower before. absurd (omega (arith, before))) 3 (omega (arith, count))

pub renew-requires-2-clause-joined : goal.renew-requires-2-clause-joined
renew-requires-2-clause-joined g c =
    let sinks = c.deref-3.result.now in
    let merges = c.topology_of-topology.result.merges in
    let count : length sinks ≡ 3 = omega (
      arith,
      c.deref-3.ensures.len,
      c.sinks_of-after.ensures.count,
      c.sinks_of-after.result.ok.0,
    ) in
    let same_sinks : c.deref-2.result.now ≡ sinks = c.deref-2.ensures.value
    ∙ sym c.deref-3.ensures.value in
    joined_held sinks merges 1 c.renew.new.self (subst (λ n. IsTopology n merges) (sym count)
    c.topology_of-topology.ensures.topology)
    (λ lower before. subst (λ place. HoldsMerge sinks merges c.renew.new.self place)
    (omega (arith, before, count))
    (subst (λ list. HoldsMerge list merges c.renew.new.self (3 - length list)) same_sinks
    c.renew.ensures.held)) 4 (omega (arith, count))
