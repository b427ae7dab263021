use Rattle.topology.proofs.Vocabulary.{length, true≢false, sym, subst, ◌∙◌, IsFirstOf, IsNearest}
use Rattle.topology.proofs.CoverLemmas.{kept_first, replaced_covers, replaced_fewer}
use Rattle.topology.proofs.merging.cheapest.Goals as goal

pub returns-then-has-clause-found : goal.returns-then-has-clause-found
returns-then-has-clause-found c = record {
  pair = c.has.ensures.0 c.if-has.true;
  least = subst (IsFirstOf c.args.clusters.now.live) c.in-Some.is (kept_first
      c.args.clusters.now.live c.loop-pair.queue c.first.result c.loop-pair.invariant
      c.first.ensures.value c.first.ensures.least);
}

pub loop-pair-smaller : goal.loop-pair-smaller
loop-pair-smaller c =
    let live = c.args.clusters.now.live in
    replaced_fewer live c.loop-pair.queue c.replace_first.new.self c.in-Some.pair c.nearest.result
    (sym c.first.ensures.value ∙ c.in-Some.is)
    (λ is. true≢false (sym (c.has.ensures.1 is) ∙ c.if-has.false)) c.replace_first.ensures
    (subst (λ n. IsNearest live n c.nearest.result) c.owner.ensures c.nearest.ensures)

pub loop-pair-preserved : goal.loop-pair-preserved
loop-pair-preserved c =
    let live = c.args.clusters.now.live in
    record {
      early = c.loop-pair.invariant.early;
      covered = replaced_covers live (length live.keys) c.loop-pair.queue
          c.replace_first.new.self c.in-Some.pair c.nearest.result
          (sym c.first.ensures.value ∙ c.in-Some.is) c.loop-pair.invariant.covered
          c.replace_first.ensures
          (subst (λ n. IsNearest live n c.nearest.result) c.owner.ensures c.nearest.ensures);
    }

pub returns-clause-none : goal.returns-clause-none
returns-clause-none c = λ none pair is. subst (IsFirstOf c.args.clusters.now.live) c.in_default.is
    (kept_first c.args.clusters.now.live c.loop-pair.queue c.first.result c.loop-pair.invariant
    c.first.ensures.value c.first.ensures.least) pair is
