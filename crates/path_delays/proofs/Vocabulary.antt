-- The words that the proofs of this crate have in common.
pub use Rattle.std.proofs.Common.{ℕ, ◌≡◌, ◌<◌, ◌≤◌, ◌+◌, ◌-◌, List, [], ◌∷◌, ◌++◌, length, drop, take, Option, Some, inl, inr, refl, sym, ◌∙◌, ap, subst, arith, ◌*◌, Bool, true, false, cond, IsTrue, map, get_or, All, Contains, None, IsSomeAnd, ◌⊎◌, ◌==◌, not, ◌≢◌, ◌+ℤ◌, ◌-ℤ◌, ℤ, pos, negsuc, ◌*ℤ◌, ◌||◌, ◌≤ℤ◌, ◌↔◌, MatchBool, append-nil, set, zero, suc, filter, replicate, sum, AllPairs, ◌/◌, ◌%◌, ◌^◌, ◌&&◌, Any, reverse, append_assoc, vec_len, rules}
pub use Rattle.std.proofs.Math.Nat.{mul-le-mul_right, mul-add}
pub use Rattle.std.proofs.lemmas.Bool.{cases_lt, true≢false, cases_eq, and_parts, and_from, not-true, eqb-false, ne_eqb, leb-true, leb-false, eq-eqb, eqb-true, or_left, false≢true, or_cases, or_right}
pub use Rattle.std.proofs.lemmas.Grind.{common_steps}
pub use Rattle.std.proofs.lemmas.Int.{ints, clamps, to_z-of_z}
pub use Rattle.std.proofs.lemmas.List.{drop-take, take-append-drop, take-take, get_or_append_left, get_or_push, length_push, length-append, length-map, take_more, drop_all, drop_more, drop-drop, get_or_default, get_or_past, get_or-drop, get_or-take, length-drop, length-take, get_or-map, get_or-set_same, get_or-set_other, length-set, map-set, length-replicate, get_or-replicate, get_or_read, reverse-append, take_all, length-take-le}
pub use Rattle.std.proofs.lemmas.List.Elements.{All-nil, All-map, All-append, All-contains, All-contains_itself, Contains-append_left, Contains-append_right, Contains-get_or, Contains-push, Contains-push_cases, All-filter, filter_passes, All-push}
pub use Rattle.std.proofs.lemmas.List.Quantifiers.{all_pairs_push, Any-push}
pub use Rattle.std.proofs.lemmas.List.Sums.{sum_by_more, sum_by-take-le, sum_by-cons, sum_by-set, sum_by-le-sum_by, sum-map, get_or-le-sum_by}
pub use Rattle.std.proofs.lemmas.Option.{same_Some, slice_get-get_or, slice_get_within, get_or_from_slice_get, slice_get-map, slice_get_past, slice_get_read}
pub use Rattle.std.proofs.lemmas.Result.{IfErr-weaker, IfOk-weaker, err_from_is_err_and, on_ok_weaker}
pub use Rattle.std.specs.Int.{int_min, int_max, bit_at, bit_not, trailing_zeros, w64, w128}
pub use Rattle.std.specs.Int.Signed.{lt_z}
pub use Rattle.std.specs.List.{slice_get, slice_range, sum_by, slice_index_or}
pub use Rattle.std.specs.Option.{option_and_then, option_map, unwrap_or, option_map_or, option_to_list, IfSome}
pub use Rattle.std.specs.Prelude.{if◌then◌else◌, slice_index, IsSome, bit_and, bit_or, nat_abs}
pub use Rattle.cts_model.proofs.PathRegisters.{path_within}
pub use Rattle.cts_model.proofs.TopologyLemmas.{some_and}
pub use Rattle.cts_model.specs.declared.circuit.Circuit.{Circuit}
pub use Rattle.cts_model.specs.declared.constraint.Constraint.{Constraint}
pub use Rattle.cts_model.specs.declared.kind.Kind.{Kind}
pub use Rattle.cts_model.specs.declared.kind.Kind.TheVariants.{And, Nand, Or, Nor, Not, Xor, Xnor, Buff, Input, Dff, Host}
pub use Rattle.cts_model.specs.declared.signal.Signal.{Signal}
pub use Rattle.cts_model.specs.declared.tech.Tech.{Tech}
pub use Rattle.cts_model.specs.declared.timing.PairDelay.{PairDelay}
pub use Rattle.cts_model.specs.Vocabulary.{has_host, gate_inputs, is_host, is_valid, is_gate, place_of, is_input, is_register, register_signal, Captures, Follows, Reads, IsPath, IsInput, Launches, IsGate, least_delay, greatest_delay, delay_of, least_gate_delay, greatest_gate_delay, least_through, greatest_through, ComesBefore, IsPairDelay, ListsPairs, JoinsMoreThan, IsSmallPair}
pub use Rattle.cts_model.specs.table.Tables.{IsWithin, IsGateDelay}
pub use Rattle.gate_order.proofs.ReadLemmas.{IsGate-from_Reads, Contains-cons, gate_within}
pub use Rattle.gate_order.specs.GroupParts.{group_of, HasGroups, bounds_of}
pub use Rattle.gate_order.specs.Orders.{IsTopologicalOrder}
pub use Rattle.gate_order.specs.declared.groups.Groups.{Groups}
pub use Rattle.path_delays.specs.Captured.{AreCapturedBy, AreAllCaptures, AreCapturersOf, AreCapturedBelow}
pub use Rattle.path_delays.specs.Capturings.{IsCapturer, HasCaptureRoom, IsSameCapturing, AreAllReached, AreGathered, IsCapturingOf}
pub use Rattle.path_delays.specs.Carrying.{along, AreCarried, AreExtremesIfAny, AreShownBy, Comes, IsJoinedAt, StandsAt, AreExtremesOf, AreLaunchedBy, gate_sums_at, start_sums}
pub use Rattle.path_delays.specs.CyclePaths.{FitsRoom, IsPathWithin, KeepsPaths, pair_of}
pub use Rattle.path_delays.specs.ExtremePaths.{IsExtremeIfAny, delay_by, extreme_of, IsNoFurther, IsFurthest, IsExtremePath}
pub use Rattle.path_delays.specs.Handing.{delay_at, lane_at, lanes_at, rank_at, CanHandOn, HasReachRoom, IsSameRoom, IsHanded, IsMarked, AreHanded, limit_at, most_at, limit_of, most_of, no_delay, sums_at, waits_at, IsCleared, IsHandedOn}
pub use Rattle.path_delays.specs.JoinedPairs.{IsJoinedBy, AreDelaysBetween, ListsPairsBefore, MeetsLimit, ShowsTooMany, pair_limit, IsDelayBetween, ArePairs}
pub use Rattle.path_delays.specs.LaneParts.{AllBounded, lane_of}
pub use Rattle.path_delays.specs.LaneTables.{CanHand, GetsSums, IsJoined, IsMerged, IsPassed, lane_in, row_at, rows_of, sums_before, table_limit}
pub use Rattle.path_delays.specs.NarrowParts.{ArePassable, greatest_in, least_in, narrow_limit, wide_greatest, wide_lanes, wide_least}
pub use Rattle.path_delays.specs.Networks.{gate_sums, AreInputs, AreInputsBelow, AreRanks, IsNetworkOf, AreAllReads, all_reads_by, AreReaders, HasPlaceInOrder, AreCapturedUpTo}
pub use Rattle.path_delays.specs.NumberSets.{has_number, AreInserted, AreListed, IsLowestTaken, IsInserted, IsCommon, IsFirstFilled}
pub use Rattle.path_delays.specs.Reaches.{IsChain, IsReach, AreExtreme}
pub use Rattle.path_delays.specs.SumParts.{AreAround, IsAround, either_sums, joined_sums, merged_sums, sums_through, AreWithin, no_sums, AreBounded, AreMissing, delay_limit, some_sums}
pub use Rattle.path_delays.specs.WalkParts.{HasReach, sums_to, HasRanksOf, HasReachBetween, ReachesEach, IsRoomFor}
pub use Rattle.path_delays.specs.Walking.{AllBelow, IsSpreadBelow, LanesBelow, StartsIn, AllBelowBut, BegunIn, IsSpread, IsDue}
pub use Rattle.path_delays.specs.WindowParts.{window_after, either_window, window_at, AreBelow, IsGateWindow, AreCaptures, BegunTo, start_window, window_limit, sums_of, sums_in, scaled_delay, AreSwept, StartsBelow, NoneHanded, HandedToPassed, AreLaunched, ArePassed, merged_windows}
pub use Rattle.path_delays.specs.Windows.{window_along, IsHullIfAny, IsWindowBelow, ComesTo, AreWindows}
pub use Rattle.path_delays.specs.declared.capturing.Capturing.{Capturing}
pub use Rattle.path_delays.specs.declared.lanes.Lanes.{Lanes}
pub use Rattle.path_delays.specs.declared.narrow_lanes.NarrowLanes.{NarrowLanes}
pub use Rattle.path_delays.specs.declared.network.Network.{Network}
pub use Rattle.path_delays.specs.declared.number_set.NumberSet.{NumberSet}
pub use Rattle.path_delays.specs.declared.reach.Reach.{Reach}
pub use Rattle.path_delays.specs.declared.sums.Sums.{Sums}
pub use Rattle.path_delays.specs.declared.walk.Walk.{Walk}
pub use Rattle.path_delays.specs.declared.window.Window.{Window}
