-- The words that the proofs of this crate have in common.
pub use Rattle.std.proofs.Common.{ℕ, ◌≡◌, ◌≢◌, ◌<◌, ◌≤◌, ◌+◌, ◌-◌, List, ◌++◌, length, get_or, take, drop, reverse, refl, sym, ◌∙◌, ap, subst, arith, add-zero, All, AllPairs, ⊎_elim, nat_lt, Bool, true, false, cond, Some, None, position, inl, inr, ◌==◌, zero, suc, [], ◌∷◌, map, filter, set, sum, ◌⊎◌, ◌&&◌, Contains, Option, IsTrue, count_by, ◌||◌, nat_eq, not, true≢false}
pub use Rattle.std.proofs.lemmas.Bool.{cases_lt, ltb-true, ltb-false, cases_eq, cases_order, eq-eqb, ne_eqb, and_parts, and_from, false≢true, eqb-true, eqb-false, false_from_ne_true, not-true, or_cases, or_left, or_right}
pub use Rattle.std.proofs.lemmas.Bool.Decides.{nat_tests}
pub use Rattle.std.proofs.lemmas.List.{length-reverse, length-take, length-drop, length-append, get_or-reverse, get_or-take, get_or-drop, get_or_append_left, get_or-append-add, get_or-append_right, get_or_past, get_or_read, get_or-set_same, get_or-set_other, length-set, drop-set-add, drop-set-lt, take-set-le, take_more_set, map-append, append-nil, take_all, length_push, get_or_push, take_more, append_assoc, take-append-drop, take-append-le, reverse-append, get_or_default, take_at, with_items_is}
pub use Rattle.std.proofs.lemmas.List.Elements.{All-append, All-take, All-drop, filter_more, All-nil, All-push, All-weaker, Contains-push, Contains-append_left, All-cons, All-head, All-tail, All-contains_itself, Contains-append_right, filter_map-append, All-same, All-contains, Contains-get_or}
pub use Rattle.std.proofs.lemmas.List.Quantifiers.{position-Some, all_pairs_push}
pub use Rattle.std.proofs.lemmas.List.Sums.{fails_before_first, sum_by-cons, sum_by_more, sum_by_more_le, sum_by-take-le, count_by-le-length, count_by_more_yes, count_by_more_no, sum_by-set, get_or-le-sum_by}
pub use Rattle.std.proofs.lemmas.Option.{get_or_from_slice_get, slice_get_past, slice_get_within, slice_get-get_or, slice_get_read}
pub use Rattle.std.specs.List.{position_or_len, cons_option, slice_get, sum_by, list_any}
pub use Rattle.std.specs.Prelude.{slice_index, IsSomeAnd, IsSome, find}
pub use Rattle.cts_model.specs.declared.signal.Signal.{Signal}
pub use Rattle.cts_model.specs.Vocabulary.{IsGate, Reads, Follows, IsLoop, IsNamedLoop}
pub use Rattle.gate_order.specs.GateReads.{is_gate_at, reads_among, reads_by, IsRead, AreReads}
pub use Rattle.gate_order.specs.Grouped.{values_at, pairs_at, pairs_before, AreStarts, AreFilled, IsParted}
pub use Rattle.gate_order.specs.Orders.{IsTopologicalOrder, AllWait}
pub use Rattle.gate_order.specs.Sorted.{AreIdleGates, waiting_count, times_in, IsReleased, CanRelease, AreReleased, IsSorted}
