use Rattle.tree_tests.proofs.Vocabulary.{sym, subst, AreTreeSinks, IsMerged, IsSinkSet}
use Rattle.tree_tests.proofs.HeldForOthers.{JoinsAt}
use Rattle.tree_tests.proofs.OnceSet.{far, merged_once_set, near, these, tree_sinks_far, tree_sinks_near}
use Rattle.tree_tests.proofs.place_down_tests.places_once_a_sink_is_set.Goals as goal

pub merge-requires-clause-sinks : goal.merge-requires-clause-sinks
merge-requires-clause-sinks g c = subst AreTreeSinks (sym (these c.still.result c.still-2.result
    c.still-3.result far c.still.ensures c.still-2.ensures c.still-3.ensures)) tree_sinks_far

pub place-requires-clause-sinks : goal.place-requires-clause-sinks
place-requires-clause-sinks g c = subst AreTreeSinks (sym (these c.still-5.result c.still-6.result
    c.still-7.result near c.still-5.ensures c.still-6.ensures c.still-7.ensures)) tree_sinks_near

pub place-requires-clause-merged : goal.place-requires-clause-merged
place-requires-clause-merged g c =
    let merges = c.topology_of-topology.result.merges in
    let work = c.merge.new.work in
    let new = c.set_sink.new.self in
    let before = these c.still.result c.still-2.result c.still-3.result far c.still.ensures
    c.still-2.ensures c.still-3.ensures in
    let after = these c.still-5.result c.still-6.result c.still-7.result near c.still-5.ensures
    c.still-6.ensures c.still-7.ensures in
    subst (λ sinks. IsMerged sinks merges new) (sym after)
    (merged_once_set merges work new c.topology_of-topology.ensures.topology
    (subst (λ list. JoinsAt list 0 0 1) c.as_slice.ensures c.expect_joined.ensures.lower)
    (subst (λ list. JoinsAt list 1 2 3) c.as_slice.ensures c.expect_joined.ensures.upper)
    c.reach.ensures.fit c.merge.ensures.settled
    (subst (λ sinks. IsMerged sinks merges work) before c.merge.ensures.merged)
    (subst (λ sink. IsSinkSet 2 sink work new) c.still-4.ensures c.set_sink.ensures))
