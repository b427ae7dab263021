-- The words that the proofs of this crate have in common.
pub use Rattle.std.proofs.Common.{◌≡◌, ℕ, ◌≤◌, inl, inr, min, max, List, [], ◌∷◌, ◌++◌, Contains, Some, slice_get, filter_map, ℤ, ◌+ℤ◌, ◌-ℤ◌, neg_ℤ, ◌≤ℤ◌, sym, subst, ◌∙◌, arith, ◌⊎◌, zero, suc, ◌+◌, ◌-◌, ◌<◌, Option, None, unwrap_or, IfSome, IsSomeAnd, length, refl, ap, ◌≢◌, ◌^◌, Bool, false, replicate, take, IsFalse, set, slice_set, rules, pos, ◌*◌, true}
pub use Rattle.std.proofs.Math.Seq.{take-set-lt}
pub use Rattle.std.proofs.lemmas.Bool.{cases_lt, cases_eq}
pub use Rattle.std.proofs.lemmas.Int.{ints, clamps, to_z-of_z}
pub use Rattle.std.proofs.lemmas.List.{length-set, get_or-set_same, length-replicate, length-take-le, take-replicate}
pub use Rattle.std.proofs.lemmas.List.Elements.{Contains-append_left, Contains-append_right, filter_map-append, All-contains, Contains-append_cases, All-replicate, All-nil}
pub use Rattle.std.proofs.lemmas.Option.{slice_get-get_or, slice_get_within, get_or_from_slice_get}
pub use Rattle.std.specs.Int.{int_max, w128}
pub use Rattle.cts_model.proofs.TopologyLemmas.{found_among, some_and, first_made, merge_at, merge_here, second_made, number_below, numbers_below-merge, numbers_below-sink, sinks_below-among}
pub use Rattle.cts_model.specs.declared.place.Sink.{Sink}
pub use Rattle.cts_model.specs.declared.tree.Merge.{Merge}
pub use Rattle.cts_model.specs.Vocabulary.{ShowsMerge, IsTopology, Joins, numbers_below, sinks_below}
pub use Rattle.tilted_rect.proofs.CodeNumbers.{kept, below_fits, difference_read, sum_read}
pub use Rattle.tilted_rect.proofs.RegionLemmas.{region_extremes, sides_from_region, region_from_sides}
pub use Rattle.tilted_rect.proofs.SpanLemmas.{sinks_of_u_show, sinks_of_v_show, span_is_symmetric, spread_is_reach}
pub use Rattle.tilted_rect.specs.Extremes.{Extremes, IsExtremes, IsGreatest, IsLeastOf, spread, u_below, v_below, HasExtremeSides, IsRegion, u_above, v_above}
pub use Rattle.tilted_rect.specs.declared.rect.Rect.{Rect}
pub use Rattle.merge_up.specs.Merging.{HoldsMerge, HoldsJoined, HoldsSink, HoldsSinks, KeepsEnds, IsPointOf, IsRenewed, IsSinkSet, IsUnsettled, KeepsJoined, renewed_as, placed_as}
pub use Rattle.merge_up.specs.Sides.{IsEnd, AreEnds, extremes_of, pair_of, u_back, v_back, IsSoFar, far_to, furthest_to}
pub use Rattle.merge_up.specs.Views.{HasEntries, state_of, cut}
pub use Rattle.merge_up.specs.Works.{WorkState, IsFit}
pub use Rattle.merge_up.specs.declared.end.End.{End}
pub use Rattle.merge_up.specs.declared.ends.Ends.{Ends}
