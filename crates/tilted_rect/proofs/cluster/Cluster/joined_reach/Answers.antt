use Rattle.tilted_rect.proofs.Vocabulary.{rules, ap, ◌∙◌, ◌+ℤ◌, sym, subst, to_z-of_z, w128, IsMultipleOf}
use Rattle.tilted_rect.proofs.ClusterLemmas.{even_twice, half_is, IsJoinedReach, reaches_summed}
use Rattle.tilted_rect.proofs.CodeNumbers.{kept}
use Rattle.tilted_rect.proofs.cluster.Cluster.joined_reach.Goals as goal

pub half-requires : goal.half-requires
half-requires c =
    subst (IsMultipleOf 2)
    (sym (reaches_summed c.args.self.now.reach c.args.other.now.reach c.cost.result
    c.args.self.now.below c.args.other.now.below c.cost.ensures.below))
    (even_twice c.args.self.now c.args.other.now _ c.cost.ensures.reach)

-- what is known of half of the sum
half : (c : goal.After-half) → IsJoinedReach c.args.self.now c.args.other.now (kept c.half.result)
half c =
    let sum = reaches_summed c.args.self.now.reach c.args.other.now.reach c.cost.result
    c.args.self.now.below c.args.other.now.below c.cost.ensures.below in
    half_is c.args.self.now c.args.other.now (kept c.half.result) _
    (ap (λ z. z +ℤ z) (to_z-of_z w128 c.half.result (search rules)) ∙ c.half.ensures ∙ sum)
    c.cost.ensures.reach

pub returns-clause-both : goal.returns-clause-both
returns-clause-both c = (half c).both

pub returns-clause-below : goal.returns-clause-below
returns-clause-below c = (half c).below

pub returns-clause-multiple : goal.returns-clause-multiple
returns-clause-multiple c = (half c).multiple

pub returns-clause-least : goal.returns-clause-least
returns-clause-least c = (half c).least

pub returns-clause-other_least : goal.returns-clause-other_least
returns-clause-other_least c = (half c).other_least
