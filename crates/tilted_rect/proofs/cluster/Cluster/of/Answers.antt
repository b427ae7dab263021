use Rattle.tilted_rect.proofs.Vocabulary.{[], ◌∷◌, rules, to_z-of_z, w128}
use Rattle.tilted_rect.proofs.ClusterLemmas.{one_sink, one_tree_sink}
use Rattle.tilted_rect.proofs.cluster.Cluster.of.Goals as goal

pub invariant_of-result-clause-sinks : goal.invariant_of-result-clause-sinks
invariant_of-result-clause-sinks c = ∣ record {
  sinks = c.args.sink ∷ [];
  each = one_tree_sink c.args.sink c.requires;
  held = one_sink c.args.sink c.point.result _ (to_z-of_z w128 c.args.sink.offset (search rules))
      c.point.ensures.sides;
} ∣₁

pub returns : goal.returns
returns c = record {
  alone = one_sink c.args.sink c.point.result _
      (to_z-of_z w128 c.args.sink.offset (search rules)) c.point.ensures.sides;
}
