-- The words that the proofs of this crate have in common.
pub use Rattle.std.proofs.Common.{◌≡◌, ◌⊎◌, ℕ, zero, suc, ◌<◌, ◌+◌, Bool, true, false, cond, Option, Some, None, List, [], ◌∷◌, ◌++◌, ℤ, inl, inr, refl, sym, ap, subst, ◌∙◌, arith, get_or, length, pos, ◌≢◌, ◌≤◌, length-append, add-zero, take, set, ◌+ℤ◌, ◌-ℤ◌, ◌≤ℤ◌, ◌↔◌, ◌<ℤ◌, ◌^◌, FitsSigned, ◌-◌, length-set, map, drop, rules, true≢false}
pub use Rattle.std.proofs.lemmas.Bool.{cases_lt, lt-ltb, ltb-true, cases_eq, le-ltb, eqb-true, eq-eqb}
pub use Rattle.std.proofs.lemmas.Int.{ints, by_lt_z, clamps, to_z-of_z}
pub use Rattle.std.proofs.lemmas.List.{get_or_default, take-append-le, length-map}
pub use Rattle.std.proofs.lemmas.List.Elements.{All-contains, Contains-append_right, All-append, All-cons, All-nil}
pub use Rattle.std.proofs.lemmas.List.Sorted.{Contains-permutation, sum_by-IsPermutation, IsPermutation-insert, IsPermutation-remove, IsPermutation-cons, IsPermutation-map, IsPermutation-refl, IsPermutation-trans, length_permutation, IsPermutation-sym}
pub use Rattle.std.proofs.lemmas.Option.{slice_get-get_or, slice_get_within, MatchOption-at_some}
pub use Rattle.std.specs.BinaryHeap.{IsUpperBound, heap_items}
pub use Rattle.std.specs.Bool.{nat_lt}
pub use Rattle.std.specs.Int.{int_max, w128}
pub use Rattle.std.specs.List.{All, Contains, slice_get, sum_by, slice_index_or, insert, remove}
pub use Rattle.std.specs.List.Sorted.{IsPermutation}
pub use Rattle.std.specs.Option.{IfSome, option_to_list, option_map_or, IsSome, IsSomeAnd, option_and_then, option_map, IsNone}
pub use Rattle.std.specs.Ordering.{int_eq, is_lt}
pub use Rattle.cts_model.specs.declared.place.Sink.{Sink}
pub use Rattle.cts_model.specs.declared.tree.Merge.{Merge}
pub use Rattle.cts_model.specs.Vocabulary.{IsBelow, IsCheapest, IsCheaper, IsDoubleCost, IsLive, sinks_below, IsMerge}
pub use Rattle.slab.specs.Slab.{get, Updates}
pub use Rattle.tilted_rect.proofs.ClusterLemmas.{cost_reach}
pub use Rattle.tilted_rect.proofs.CodeNumbers.{kept, difference_read}
pub use Rattle.tilted_rect.proofs.ExtremeLemmas.{append_is_union}
pub use Rattle.tilted_rect.proofs.SpanLemmas.{one_greatest_span}
pub use Rattle.tilted_rect.specs.ClusterSets.{cost_of, IsCluster}
pub use Rattle.tilted_rect.specs.Rects.{gap_of}
pub use Rattle.tilted_rect.specs.declared.cluster.Cluster.{Cluster}
pub use Rattle.topology.specs.Axes.{low_on, high_on}
pub use Rattle.topology.specs.LiveClusters.{IsPair, IsKept, IsNearest, IsCovered, AreCovered, AreKept, IsFirstOf, cluster_of, owner_of, HasCluster, IsOrdered, IsUnder, IsUnjoined, entry_at, low_at, node_at, IsCheapestPair, IsAdded, IsAt, IsJoined, IsLeft, IsMerging, AreLive, WereCheapest, AreFirstSinks, IsKeptWith, IsLooked, IsPast, other_of, StandsBefore, IsSwept}
pub use Rattle.topology.specs.Pairs.{IsBefore, IsAtMost, IsReplaced, merge_of, IsCheaperOf, by_turn}
pub use Rattle.topology.specs.declared.axis.Axis.{Axis}
pub use Rattle.topology.specs.declared.axis.Axis.TheVariants.{U, V, Reach}
pub use Rattle.topology.specs.declared.live.Entry.{Entry}
pub use Rattle.topology.specs.declared.live.Live.{Live}
pub use Rattle.topology.specs.declared.pair.Pair.{Pair}
