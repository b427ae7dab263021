-- The words that the proofs of this crate have in common.
pub use Rattle.std.proofs.Common.{◌≡◌, ℕ, ◌+◌, ◌*◌, ◌≤◌, Bool, true, false, ℤ, pos, ◌+ℤ◌, ◌-ℤ◌, ◌*ℤ◌, ◌≤ℤ◌, ◌<ℤ◌, List, ap, arith, zero, suc, ◌<◌, [], ◌∷◌, length, Some, refl, sym, ◌∙◌, subst, get_or, inl, inr, ◌++◌, map, append-nil, ◌^◌, neg_ℤ, to_z, of_z, take, ◌≢◌, IsTrue, true≢false, ◌↔◌, Any, ◌⊎◌, set, length-append, Option, None, negsuc, int_div, FitsSigned, cond, ◌||◌, int_lt, codes, drop, ◌-◌, rules, slice_index_or}
pub use Rattle.std.proofs.Math.IntN.{*ℤ-zero, *ℤ_comm}
pub use Rattle.std.proofs.Math.ListN.{get_or-append}
pub use Rattle.std.proofs.Math.Nat.{mul-le-mul_left, mul-add, mul_comm, mul-one}
pub use Rattle.std.proofs.Math.Seq.{get_or-append_seam, take-append_seam}
pub use Rattle.std.proofs.lemmas.Bool.{cases_lt, cases_eq, false≢true, eq-eqb, ne_eqb}
pub use Rattle.std.proofs.lemmas.Bool.Decides.{nat_tests}
pub use Rattle.std.proofs.lemmas.Int.{ints, unsigned_abs-mul, clamps, to_z-of_z, by_lt_z}
pub use Rattle.std.proofs.lemmas.List.{get_or_past, map-append, map_push, length_push, get_or-set_same, get_or-set_other, length-set, same_lists, get_or_default, get_or-take, length-take, take-append-drop, take-append-le, length-take-le, take_more}
pub use Rattle.std.proofs.lemmas.List.Elements.{All-weaker, All-contains_itself, All-head, All-tail, All-contains, Contains-append_cases, filter-append, All-push, All-append, All-cons, All-nil, filter_map-append, All-map, Contains-append_left, Contains-append_right}
pub use Rattle.std.proofs.lemmas.List.Folds.{list_any-append, list_any_at}
pub use Rattle.std.proofs.lemmas.List.Sums.{sum_by-cons, sum_by_push}
pub use Rattle.std.proofs.lemmas.Nat.{mul-le}
pub use Rattle.std.proofs.lemmas.Option.{slice_get-get_or, get_or_from_slice_get, slice_get_cases, slice_get_within, slice_get_read, IfSome_then, slice_get_past}
pub use Rattle.std.specs.Int.{int_max}
pub use Rattle.std.specs.List.{All, filter_map, enumerate_from, slice_get, Contains, filter, cons_option, fold, range_with_len}
pub use Rattle.std.specs.Option.{option_and_then, option_map_or, option_or}
pub use Rattle.std.specs.Prelude.{MatchBool, nat_abs, IfSome, unsigned_abs, IsSomeAnd, ◌==◌, if◌then◌else◌, AllPairs, ◌&&◌, option_map, is_some, is_none, not}
pub use borrow.Author.Differences.{up, down}
pub use mir.Syntax.{w128}
pub use Rattle.cts_base.specs.declared.fraction.Fraction.{Fraction}
pub use Rattle.cts_model.specs.declared.circuit.Circuit.{Circuit}
pub use Rattle.cts_model.specs.declared.constraint.Constraint.{Constraint}
pub use Rattle.cts_model.specs.declared.kind.Kind.{Kind}
pub use Rattle.cts_model.specs.declared.kind.Kind.TheVariants.{And, Nand, Or, Nor, Not, Xor, Xnor, Buff, Input, Dff, Host}
pub use Rattle.cts_model.specs.declared.period.PeriodShow.{PeriodShow}
pub use Rattle.cts_model.specs.declared.period.PeriodShow.TheVariants.{Cycle, Floor}
pub use Rattle.cts_model.specs.declared.place.Point.{Point}
pub use Rattle.cts_model.specs.declared.place.Sink.{Sink}
pub use Rattle.cts_model.specs.declared.place.Uv.{Uv}
pub use Rattle.cts_model.specs.declared.problem.Problem.{Problem}
pub use Rattle.cts_model.specs.declared.report.Report.{Report}
pub use Rattle.cts_model.specs.declared.signal.Signal.{Signal}
pub use Rattle.cts_model.specs.declared.tech.GateDelay.{GateDelay}
pub use Rattle.cts_model.specs.declared.tech.Tech.{Tech}
pub use Rattle.cts_model.specs.declared.timing.PairDelay.{PairDelay}
pub use Rattle.cts_model.specs.declared.tree.Merge.{Merge}
pub use Rattle.cts_model.specs.Vocabulary.{register_number, IsCircuit, gate_inputs, has_host, host_name, host_signal, is_named, registers_of, HasNoHost, IsWithHost, is_register, is_host, is_valid, is_gate, place_of, register_signal, IsPath, AreUsedKinds, distance, rotated_distance, rotated, scaled, IsBelow, IsPointBelow, IsMultipleOf, apart, HoldsTogether, next_place, GivesPeriod, IsOfCircuit, HasShape, IsDrawnEdge, IsReachShown, IsSkewed, IsOfSize, IsWithinBounds, number_at, origin, ShowsWhatItSays, IsShown, AtEach, IsShownLeast, IsShownTiming, cycle_of, IsShownTree, ShowsLeast, sinks_in, source_in, IsSatisfied, Satisfies, IsSetupConstraint, IsHoldConstraint, IsConstraintOf, count_of, ShowsPeriod, Leads, IsCycle, total_weight, total_count, ForbidsPeriods, least_delay, greatest_delay, no_delay, ComesBefore, IsPairDelay, IsCritical, IsForbidding, HasNoPeriod, IsFloorPeriod, IsLeastFraction, AreOrdered, ListsPairs, IsSmallPeriod, arrival_of, AreFromZero, AreLeastArrivals, IsLeastSchedule, MeetsSetup, MeetsHold, Meets, IsAdmitted, Embedding, IsEmbedding, RealisesOffsets, total_length, total_wire, embedding_of, IsLeastWire, AreWiresDown, grid_of, on_grid, scheduled_length, sink_of, sinks_of, steps_of_micro, HasReaches, AreNoLess, total_offset, RealisesSchedule, span, IsDoubleReach, AreReaches, ShowsMerge, ShowsSource, AreShown, IsTopology, IsParent, numbers_below, root_of, source_of, IsLive, IsMerge, Joins, sinks_below}
pub use Rattle.cts_model.specs.netlist.Circuits.{IsHost}
pub use Rattle.cts_model.specs.report.Judgements.{HoldsTogetherHere}
pub use Rattle.cts_model.specs.report.SaidReports.{ShowsLeads, ShowsTiming, IsPeriodShown, ShowsTree}
pub use Rattle.cts_model.specs.table.Tables.{IsGateDelay, IsWithin, IsTable}
pub use Rattle.cts_model.specs.tree.RealisedSchedules.{IsSkewOf}
pub use Rattle.cts_model.specs.tree.Topologies.{numbers_at, sets_after, sets_of}
