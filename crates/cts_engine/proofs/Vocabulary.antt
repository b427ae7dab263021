-- The words that the proofs of this crate have in common.
pub use Rattle.std.proofs.Common.{◌⊎◌, ◌<◌, ◌≤◌, ◌-◌, ◌*◌, ℕ, ℤ, pos, ◌≤ℤ◌, List, length, get_or, Contains, inl, inr, arith, ◌≡◌, ◌≢◌, ◌+◌, ◌+ℤ◌, ◌-ℤ◌, suc, Bool, true, false, cond, [], ◌∷◌, map, AllPairs, Option, Some, None, refl, sym, ap, subst, ◌^◌, ◌*ℤ◌, ◌∙◌, ◌++◌, IsTrue, nat_eq, ◌↔◌, ◌==◌, Result, Ok, Err, IfOk, IfErr, take, negsuc, true≢false, zero, to_z, of_z, slice_set, ap₂, neg_ℤ, drop, ◌<ℤ◌, slice_index_or}
pub use Rattle.std.proofs.lemmas.Bool.{cases_lt, leb-true, cases_eq}
pub use Rattle.std.proofs.lemmas.Bool.Decides.{Decides-eqb}
pub use Rattle.std.proofs.lemmas.Int.{ints, clamps}
pub use Rattle.std.proofs.lemmas.List.{get_or_past, length-map, get_or-set_same, get_or-set_other, length-set, length_push, take_more, get_or_default, get_or-drop, get_or-take, length-drop, length-take}
pub use Rattle.std.proofs.lemmas.List.Elements.{All-contains, All-cons, All-map, All-nil, All-weaker, All-contains_itself, All-head, All-tail, All-get_or, filter_map-append, All-append}
pub use Rattle.std.proofs.lemmas.List.Kept.{AllPairs-cons}
pub use Rattle.std.proofs.lemmas.Nat.{mul-le}
pub use Rattle.std.proofs.lemmas.Option.{slice_get_within, slice_get-get_or, get_or_from_slice_get, IfSome_then}
pub use Rattle.std.specs.List.{All, cons_option}
pub use Rattle.std.specs.Option.{option_and_then, option_map_or, option_map, option_to_list}
pub use Rattle.std.specs.Prelude.{nat_abs, IsSomeAnd, MatchBool, nat_le, slice_get, unsigned_abs, IfSome}
pub use mir.Syntax.{w128}
pub use Rattle.bench_reader.specs.Netlists.{AcceptsNetlist, RefusesNetlist}
pub use Rattle.critical_cycle.specs.CyclePlaces.{constraints_at, AreWithin}
pub use Rattle.cts_base.proofs.Told.{not_both, one_value, told_fault}
pub use Rattle.cts_base.specs.declared.fraction.Fraction.{Fraction}
pub use Rattle.cts_model.proofs.GridLemmas.{grid_size, number_read, product_size, on_grid_below, scheduled_size}
pub use Rattle.cts_model.proofs.ParentLemmas.{joined_by, made_parent, one_parent, parent_above, parent_stands}
pub use Rattle.cts_model.proofs.PathRegisters.{tails_within, head_within, tail_within}
pub use Rattle.cts_model.proofs.PointLemmas.{distance-rotated, distance_by_way, distance-itself, distance_from_zero}
pub use Rattle.cts_model.proofs.ScaleLemmas.{scale_le, size_same, scale-finer}
pub use Rattle.cts_model.proofs.SkewLemmas.{least_for_schedule, length-sinks_of, offsets_are_skews, realised_meets, sink_at}
pub use Rattle.cts_model.proofs.TopologyLemmas.{some_and, first_made, merge_at, merge_here, second_made}
pub use Rattle.cts_model.proofs.TreeLemmas.{reaches_realise, wires_are_left, shown_reaches_are_least}
pub use Rattle.cts_model.specs.declared.circuit.Circuit.{Circuit}
pub use Rattle.cts_model.specs.declared.constraint.Constraint.{Constraint}
pub use Rattle.cts_model.specs.declared.period.PeriodShow.{PeriodShow}
pub use Rattle.cts_model.specs.declared.period.PeriodShow.TheVariants.{Cycle, Floor}
pub use Rattle.cts_model.specs.declared.place.Places.{Places}
pub use Rattle.cts_model.specs.declared.place.Point.{Point}
pub use Rattle.cts_model.specs.declared.place.Sink.{Sink}
pub use Rattle.cts_model.specs.declared.place.Uv.{Uv}
pub use Rattle.cts_model.specs.declared.problem.Problem.{Problem}
pub use Rattle.cts_model.specs.declared.report.Report.{Report}
pub use Rattle.cts_model.specs.declared.schedule.Lead.{Lead}
pub use Rattle.cts_model.specs.declared.schedule.Lead.TheVariants.{Zero, Tight}
pub use Rattle.cts_model.specs.declared.schedule.Schedule.{Schedule}
pub use Rattle.cts_model.specs.declared.signal.Signal.{Signal}
pub use Rattle.cts_model.specs.declared.tech.Tech.{Tech}
pub use Rattle.cts_model.specs.declared.timing.PairDelay.{PairDelay}
pub use Rattle.cts_model.specs.declared.tree.Merge.{Merge}
pub use Rattle.cts_model.specs.declared.tree.Show.{Show}
pub use Rattle.cts_model.specs.declared.tree.Tree.{Tree}
pub use Rattle.cts_model.specs.declared.tree.Wire.{Wire}
pub use Rattle.cts_model.specs.Vocabulary.{has_host, host_signal, IsWithHost, HasNoHost, is_host, is_gate, Follows, IsInput, IsPath, Launches, Reads, IsLoop, AreUsedKinds, IsBelow, IsPointBelow, rotated, IsMultipleOf, IsUvBelow, IsUvMultipleOf, apart, distance, IsSmallWire, HasTimingBounds, HasTreeBounds, IsOfSize, ShowsAmong, HasSmallWeight, HasSmallWeights, IsSmallLead, LeadsAmong, ShowsPeriodAmong, cycle_length, IsMergeShow, IsSmallMerge, IsSourceShow, sinks_in, source_in, AtEach, IsShown, IsShownLeast, IsShownTiming, IsShownTree, cycle_of, ArePathsWithin, GivesWeight, ArePathsOf, IsConstraintOf, IsHoldConstraint, IsSetupConstraint, IsCycle, IsLeastPeriodOf, greatest_delay, least_delay, delay_of, IsPairDelay, EachLead, IsLead, lead_at, ShowsEarliest, depth_of, IsLeastFraction, IsForbidding, IsPeriodShow, HasNoPeriod, IsSmallPair, ListsPairs, AreFromZero, IsSmallPeriod, arrival_of, AreLeastArrivals, AreSmallSlacks, IsSmallSlack, AreSlacks, IsLeastSpare, IsSlackOf, hold_spare, setup_spare, embedding_of, Embedding, IsLeastWire, total_length, total_wire, IsGreedy, IsProblem, GivesUsedKinds, grid_of, on_grid, sink_of, sinks_of, scheduled_length, steps_of_micro, ShowsMerge, ShowsSource, AreShown, AreShownBy, AreTreeSinks, IsTreeSink, IsParent, IsTopology, Joins, root_of, source_of, numbers_below}
pub use Rattle.cts_model.specs.table.AcceptedTables.{AcceptsTable, GivesKinds}
pub use Rattle.cts_model.specs.table.Tables.{IsWithin}
pub use Rattle.delay_tables.specs.declared.fault.TechFault.{TechFault}
pub use Rattle.outcomes.specs.Syntheses.{IsReportWith, IsSynthesis, ShowsSynthesis}
pub use Rattle.outcomes.specs.declared.period.PeriodOutcome.TheVariants.{Found, Never}
pub use Rattle.place_down.specs.Trees.{reach_in, IsPlacedTree, IsTreeSource, HasTreeNumbers}
pub use Rattle.place_reader.specs.Placements.{AcceptsPlacement, place_by, placed_at, places_after, register_nodes, places_in}
pub use Rattle.place_reader.specs.declared.fault.PlaceFault.{PlaceFault}
pub use Rattle.schedule.specs.Schedules.{AreWithinWeights, IsAdmittedBy, IsLeastScheduleOf}
pub use Rattle.cts_engine.specs.Accepted.{IsHostedBy, TellBoth, TellsDelays, TellAll, IsTableOf, IsPlacementOf, HasTableFault, HasPlacesFault, IsProblemRefusal, bench_refusal_of, tech_refusal_of, places_refusal_of, IsCircuitRefusal}
pub use Rattle.cts_engine.specs.ClockTrees.{IsClockTree, AreTreeLists}
pub use Rattle.cts_engine.specs.PairConstraints.{AreConstraintsOf, HasSmallPairs}
pub use Rattle.cts_engine.specs.RegisterTimes.{AreTreeArrivals, AreTimes, HasLeastPeriod}
pub use Rattle.cts_engine.specs.SinkOutcomes.{AreTimedSinks}
pub use Rattle.cts_engine.specs.TreeParts.{AreDrawn, IsEdgeDrawn, IsWireOf, CanDraw, CanDrawEdge}
pub use Rattle.cts_engine.specs.declared.refusals.Refusal.{Refusal}
