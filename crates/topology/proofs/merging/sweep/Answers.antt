use Rattle.topology.proofs.Vocabulary.{◌≡◌, ◌+◌, ◌++◌, ◌∷◌, [], pos, true≢false, ap, sym, subst, ◌∙◌, IsSomeAnd, Pair, IsNearest, IsSwept}
use Rattle.std.proofs.lemmas.Result.{IfOk-weaker}
use Rattle.topology.proofs.SweepLemmas.{sweep_keeps, sweep_merges}
use Rattle.topology.proofs.merging.sweep.Goals as goal

pub returns-then-not-costs_nothing : goal.returns-then-not-costs_nothing
returns-then-not-costs_nothing c = λ sinks held. sweep_keeps sinks c.args.merges.now
    c.args.clusters.live c.args.queue.now c.push_found.new.self c.args.node
    c.nearest-found.result held c.nearest-found.ensures
    (λ free. true≢false (sym (c.costs_nothing.ensures.1 free) ∙ c.if-not-costs_nothing.true))
    c.in_ok-push_found.ensures

pub returns : goal.returns
returns c =
    let merges = c.args.merges.now in
    let live = c.args.clusters.live in
    IfOk-weaker c.join.result _ _ (λ next joined sinks held. subst
    (λ xs. IsSwept sinks xs next.live c.args.queue.now (c.args.node + 1))
    (sym (c.in_ok-push.ensures.ok ∙ ap (λ m. merges ++ m ∷ []) c.merge.ensures))
    (sweep_merges sinks merges live next.live c.args.queue.now c.args.node
    c.unwrap-pair.result c.args.clusters.ordered next.ordered held
    (subst (IsNearest live c.args.node) c.unwrap-pair.ensures c.nearest-found.ensures)
    (subst (λ o. IsSomeAnd o (λ (pair : Pair). pair.cost ≡ pos 0)) c.unwrap-pair.ensures
    (c.costs_nothing.ensures.0 c.if-not-costs_nothing.false)) joined)) c.join.ensures
