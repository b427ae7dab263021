use Rattle.tilted_rect.proofs.Vocabulary.{◌≡◌, ◌-ℤ◌, ap, ◌∙◌, rules, to_z-of_z, w128, int_max, gap_of}
use Rattle.tilted_rect.proofs.ClusterLemmas.{reaches_apart, cost_reach, cost_below}
use Rattle.tilted_rect.proofs.CodeNumbers.{kept}
use Rattle.tilted_rect.proofs.cluster.Cluster.cost.Goals as goal

-- the greatest of the gap and the two differences
costs : (c : goal.After-max-2)
    → kept c.max-2.result ≡ int_max
    (int_max (gap_of c.args.self.now.region c.args.other.now.region)
    (c.args.self.now.reach -ℤ c.args.other.now.reach))
    (c.args.other.now.reach -ℤ c.args.self.now.reach)
costs c =
    let reach = c.args.self.now.reach in
    let other_reach = c.args.other.now.reach in
    let gap = to_z-of_z w128 c.gap-gap.result (search rules) ∙ c.gap-gap.ensures.value in
    let further = reaches_apart reach other_reach c.args.self.now.below c.args.other.now.below in
    let nearer = reaches_apart other_reach reach c.args.other.now.below c.args.self.now.below in
    let inner = to_z-of_z w128 c.max.result (search rules) ∙ c.max.ensures.value in
    rw (further, nearer, gap) at
    (to_z-of_z w128 c.max-2.result (search rules) ∙ c.max-2.ensures.value
    ∙ ap (λ z. int_max z (kept (kept other_reach -ℤ kept reach))) inner)

pub returns-clause-value : goal.returns-clause-value
returns-clause-value c = costs c

pub returns-clause-reach : goal.returns-clause-reach
returns-clause-reach c = λ first second both union one two. cost_reach first second both _ _ _ _ _
    union one two (costs c)

pub returns-clause-below : goal.returns-clause-below
returns-clause-below c = cost_below c.args.self.now.region c.args.other.now.region _ _ _
    c.args.self.now.below c.args.other.now.below (costs c)
