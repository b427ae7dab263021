use Rattle.tree_tests.proofs.Vocabulary.{◌≡◌, ◌+◌, ◌++◌, ◌∷◌, [], length, ap, sym, subst, length-append, arith, IsMerge, EachMerge, EachMerge-push}
use Rattle.tree_tests.proofs.trees.topology_of.Goals as goal

pub loop-nodes-preserved : goal.loop-nodes-preserved
loop-nodes-preserved g c =
    let sinks = c.args.sinks in
    let joined = c.loop-nodes.joined in
    let merge = c.joining-merge.result in
    let is : c.push.new.self ≡ joined ++ merge ∷ [] =
    rw c.made.ensures at c.push.ensures.ok in
    let joins = subst (λ earlier. IsMerge sinks earlier merge) c.as_slice.ensures
    c.joining-merge.ensures in (
      subst (EachMerge sinks) (sym is) (EachMerge-push sinks joined merge c.loop-nodes.invariant.0
          joins),
      omega (arith, ap length is, length-append joined (merge ∷ []), c.loop-nodes.invariant.1),
    )
