-- The words that the proofs of this crate have in common.
pub use Rattle.std.proofs.Common.{◌≡◌, ◌≢◌, ℕ, ◌+◌, List, [], ◌∷◌, length, Option, ap, refl, ◌∙◌, arith, ℤ, zero, ◌<◌, slice_set, sym, subst, slice_get, inl, inr, ◌-◌, ◌^◌, ◌≤◌, min, true, false, take, get_or, Some, ◌++◌, None, Result, Ok, Err, cond, nat_lt, All, pos, slice_index_or}
pub use Rattle.std.proofs.lemmas.List.{length-set, get_or-take, length-take, take_all, length_push}
pub use Rattle.std.proofs.lemmas.List.Elements.{Contains-append_right, All-set, filter_map-append, All-nil, All-cons}
pub use Rattle.std.specs.List.{Contains, filter_map, cons_option, count_by, range_with_len}
pub use Rattle.std.specs.Result.{result_err, result_ok}
pub use Rattle.cts_model.proofs.TopologyLemmas.{some_and, merge_at, merge_here, numbers_below-sink}
pub use Rattle.cts_model.specs.declared.place.Sink.{Sink}
pub use Rattle.cts_model.specs.declared.tree.Merge.{Merge}
pub use Rattle.cts_model.specs.declared.tree.Show.{Show}
pub use Rattle.cts_model.specs.declared.tree.Tree.{Tree}
pub use Rattle.cts_model.specs.Vocabulary.{entries_in, has_words, words_in, entries_of, IsLeastWire, RealisesOffsets, embedding_of, total_wire, total_length, ShowsMerge, AreShown, AreTreeSinks, IsTreeSink, numbers_below, IsTopology, IsLive, IsMerge, Joins, source_of}
pub use Rattle.merge_up.proofs.WorkLemmas.{merges_set, set_held, set_kept, sinks_set, ends_renewed, merges_renewed, sinks_renewed}
pub use Rattle.merge_up.specs.Merging.{HoldsMerge, IsMerged, IsSinkSet, HoldsSinks, IsRenewed, KeepsAllEnds, KeepsEnds}
pub use Rattle.merge_up.specs.Works.{WorkState, IsFit}
pub use Rattle.move_session.specs.MergesAbove.{HoldsWithEnds, IsMergedBeside, IsStep, JoinsAt, is_above, merges_above}
unfoldable pub use Rattle.move_session.specs.Moves.{moves_in}
pub use Rattle.move_session.specs.Moves.{moves_entry_fault, moves_line_fault, move_of, moves_of, told_at, move_to, register_of}
pub use Rattle.move_session.specs.declared.fault.MovesFault.{MovesFault}
pub use Rattle.move_session.specs.declared.moves.Move.{Move}
