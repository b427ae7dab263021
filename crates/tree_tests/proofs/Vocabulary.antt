-- The words that the proofs of this crate have in common.
pub use Rattle.std.proofs.Common.{◌≡◌, ◌≢◌, ℕ, zero, suc, ◌+◌, ◌<◌, List, [], ◌∷◌, ◌++◌, Contains, length, Some, Option, IsSomeAnd, slice_get, slice_set, filter_map, ℤ, ◌+ℤ◌, refl, sym, ap, subst, ◌∙◌, arith, ◌^◌, pos, neg_ℤ, ◌≤ℤ◌, ◌<ℤ◌, ◌-◌, length-append}
pub use Rattle.std.proofs.lemmas.List.{length-set}
pub use Rattle.std.proofs.lemmas.List.Elements.{All-cons, All-contains, All-nil, All-set, Contains-append_right}
pub use Rattle.cts_model.proofs.TopologyLemmas.{numbers_below-merge, numbers_below-sink, some_and, EachMerge, EachMerge-push}
pub use Rattle.cts_model.specs.declared.place.Sink.{Sink}
pub use Rattle.cts_model.specs.declared.tree.Merge.{Merge}
pub use Rattle.cts_model.specs.declared.tree.Show.{Show}
pub use Rattle.cts_model.specs.Vocabulary.{IsDoubleReach, span, ShowsMerge, AreTreeSinks, IsTreeSink, IsTopology, numbers_below, sinks_below, IsMerge, Joins}
pub use Rattle.merge_up.proofs.WorkLemmas.{merges_renewed, merges_set, set_kept, IsBegun, begun_next}
pub use Rattle.merge_up.proofs.SearchLemmas.{joined_low}
pub use Rattle.merge_up.specs.Merging.{HoldsJoined, HoldsMerge, IsRenewed, IsSinkSet, HoldsSink, IsMerged, IsUnsettled}
pub use Rattle.merge_up.specs.Works.{WorkState, IsFit}
pub use Rattle.tilted_rect.specs.Extremes.{IsRegion, Extremes, IsExtremes, u_above, u_below, v_above, v_below}
