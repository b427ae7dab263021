use Rattle.topology.proofs.Vocabulary.{◌++◌, ◌∷◌, [], length, length-append, ap, sym, subst, ◌∙◌, arith, IfSome, IsCheapestPair, IsMerging, IsNearest}
use Rattle.topology.proofs.JoinLemmas.{merging_next, some_found}
use Rattle.topology.proofs.MergeLemmas.{pair_there}
use Rattle.topology.proofs.merging.greedy.Goals as goal

pub loop-merge-init : goal.loop-merge-init
loop-merge-init c = (c.in_ok-clusters.ensures, omega (arith, c.len-merge.ensures))

pub unwrap-pair-requires : goal.unwrap-pair-requires
unwrap-pair-requires c = some_found c.loop-merge.clusters.live c.cheapest.result
    c.cheapest.ensures.none
    (pair_there c.args.sinks.now c.loop-merge.merges c.loop-merge.clusters.live
    c.loop-merge.clusters.ordered c.loop-merge.invariant.0.live
    (omega (arith, c.loop-merge-test.true, c.loop-merge.invariant.1)))

pub loop-merge-preserved : goal.loop-merge-preserved
loop-merge-preserved c =
    let sinks = c.args.sinks.now in
    let merges = c.loop-merge.merges in
    let live = c.in_ok-clusters-2.clusters in
    let next = merging_next sinks merges c.loop-merge.clusters.live live.live c.loop-merge.queue
    c.cheapest.new.queue c.push_found.new.self c.unwrap-pair.result c.nearest.result
    live.ordered c.loop-merge.invariant.0 c.cheapest.ensures.kept
    (subst (λ o. IfSome o (IsCheapestPair c.loop-merge.clusters.live)) c.unwrap-pair.ensures
    c.cheapest.ensures.found) c.in_ok-clusters-2.ensures
    (subst (λ n. IsNearest live.live n c.nearest.result)
    (omega (arith, c.count.ensures, c.in_ok-clusters-2.ensures.count)) c.nearest.ensures)
    c.in_ok-push_found.ensures in
    let pushed = c.in_ok-push.ensures.ok ∙ ap (λ m. merges ++ m ∷ []) c.merge.ensures in (
      subst (λ xs. IsMerging sinks xs live.live c.push_found.new.self) (sym pushed) next,
      omega (
        arith,
        c.loop-merge.invariant.1,
        ap length c.in_ok-push.ensures.ok,
        length-append merges (c.merge.result ∷ []),
      ),
    )
