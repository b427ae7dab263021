-- The words that the proofs of this crate have in common.
pub use Rattle.std.proofs.Common.{◌≡◌, ◌↔◌, ℕ, ◌+◌, ◌-◌, ◌*◌, ◌^◌, ◌<◌, ◌≤◌, inl, inr, true, false, ℤ, pos, ◌-ℤ◌, ◌*ℤ◌, ◌≤ℤ◌, List, Some, unwrap_or, length, get_or, slice_get, slice_set, refl, sym, ap, subst, ◌∙◌, arith, ◌+ℤ◌, ◌++◌, ◌<ℤ◌, [], ◌∷◌, cond, int_lt, ◌≢◌, FitsSigned, take}
pub use Rattle.std.proofs.lemmas.Bool.{cases_lt}
pub use Rattle.std.proofs.lemmas.Int.{ints, clamps, to_z-of_z}
pub use Rattle.std.proofs.lemmas.List.{get_or-set_same, get_or-set_other, take_more, take_all}
pub use Rattle.std.proofs.lemmas.List.Elements.{All-contains, Contains-append_left, Contains-append_right, Contains-append_cases}
pub use Rattle.std.proofs.lemmas.Option.{slice_get_cases, slice_get_within, slice_get-get_or, get_or_from_slice_get}
pub use Rattle.std.specs.Int.{int_max, w128}
pub use Rattle.std.specs.List.{Contains}
pub use Rattle.cts_model.proofs.ParentLemmas.{has_parent, parent_stands, made_parent, joined_by, parent_above, one_parent}
pub use Rattle.cts_model.proofs.PointLemmas.{distance_from_zero, same_uv, distance-rotated}
pub use Rattle.cts_model.proofs.TopologyLemmas.{some_and, sinks_below-sink, sinks_below-merge, sinks_below-among, some_sink, merge_at, merge_here}
pub use Rattle.cts_model.specs.declared.place.Point.{Point}
pub use Rattle.cts_model.specs.declared.place.Sink.{Sink}
pub use Rattle.cts_model.specs.declared.place.Uv.{Uv}
pub use Rattle.cts_model.specs.declared.tree.Merge.{Merge}
pub use Rattle.cts_model.specs.declared.tree.Show.{Show}
pub use Rattle.cts_model.specs.Vocabulary.{IsBelow, IsMultipleOf, IsUvBelow, IsUvMultipleOf, scaled, rotated, rotated_distance, IsPointBelow, apart, AreChosen, IsChosenPlace, IsSourceReach, IsEmbedding, embedding_of, InRegion, IsDoubleReach, AreTreeSinks, IsTreeSink, IsTopology, IsParent, Joins, root_of, source_of, sinks_below}
pub use Rattle.merge_up.proofs.WorkLemmas.{set_held, set_kept, merge_along, node_of, sink_along}
pub use Rattle.merge_up.specs.Merging.{IsMerged, IsSourcePlaced, IsPointOf, IsNodeSettled, placed_as}
pub use Rattle.merge_up.specs.Works.{WorkState, IsFit, IsSettled}
pub use Rattle.tilted_rect.proofs.CodeNumbers.{sum_read, kept, difference_read}
pub use Rattle.tilted_rect.proofs.ExtremeLemmas.{contains_itself, contains_one}
pub use Rattle.place_down.specs.Descents.{CanSettle, IsSettledBelow, StandFrom, StandsBelow, StaysAbove, standing, IsStanding}
pub use Rattle.place_down.specs.Sources.{IsTop}
pub use Rattle.place_down.specs.Trees.{HasTreeNumbers, IsEdgeLength, IsPlacedTree, IsTreeSource, StaysMerged, merged_as, reach_in}
pub use Rattle.place_down.specs.declared.source.Top.{Top}
