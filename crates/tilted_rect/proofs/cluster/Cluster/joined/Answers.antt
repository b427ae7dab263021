use Rattle.tilted_rect.proofs.Vocabulary.{rules, to_z-of_z, w128}
use Rattle.tilted_rect.proofs.ClusterLemmas.{clusters_meet, joined_is, joined_sinks, some_meeting}
use Rattle.tilted_rect.proofs.cluster.Cluster.joined.Goals as goal

pub unwrap-requires : goal.unwrap-requires
unwrap-requires c =
    let reach = c.joined_reach-reach.result in
    some_meeting _ _ (clusters_meet c.args.self.now c.args.other.now reach _ c.grown_to.result
    c.grown_to-2.result (to_z-of_z w128 reach (search rules)) c.joined_reach-reach.ensures.both
    c.grown_to.ensures c.grown_to-2.ensures)
    c.meet-common.ensures.none

pub invariant_of-result-clause-sinks : goal.invariant_of-result-clause-sinks
invariant_of-result-clause-sinks c =
    let reach = c.joined_reach-reach.result in
    joined_sinks c.args.self.now c.args.other.now _ c.unwrap.result
    (joined_is c.args.self.now c.args.other.now reach _ c.grown_to.result c.grown_to-2.result
    c.unwrap.result _ (to_z-of_z w128 reach (search rules)) c.joined_reach-reach.ensures.both
    c.grown_to.ensures c.grown_to-2.ensures c.unwrap.ensures c.meet-common.ensures.sides)

pub returns : goal.returns
returns c =
    let reach = c.joined_reach-reach.result in
    record {
      both = joined_is c.args.self.now c.args.other.now reach _ c.grown_to.result
          c.grown_to-2.result c.unwrap.result _
          (to_z-of_z w128 reach (search rules)) c.joined_reach-reach.ensures.both c.grown_to.ensures
          c.grown_to-2.ensures c.unwrap.ensures c.meet-common.ensures.sides;
    }
