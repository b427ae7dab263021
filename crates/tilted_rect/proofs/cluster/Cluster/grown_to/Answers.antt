use Rattle.tilted_rect.proofs.Vocabulary.{sym, subst, IsGrown, CanGrowBy}
use Rattle.tilted_rect.proofs.ClusterLemmas.{reaches_apart, has_room}
use Rattle.tilted_rect.proofs.cluster.Cluster.grown_to.Goals as goal

pub grown-requires-clause-room : goal.grown-requires-clause-room
grown-requires-clause-room c =
    subst (CanGrowBy c.args.self.now.region)
    (sym (reaches_apart c.args.reach c.args.self.now.reach c.requires.below
    c.args.self.now.below))
    (has_room c.args.self.now c.args.reach c.requires.below)

pub returns : goal.returns
returns c =
    subst (λ by. IsGrown c.args.self.now.region by c.grown.result)
    (reaches_apart c.args.reach c.args.self.now.reach c.requires.below c.args.self.now.below)
    c.grown.ensures.sides
