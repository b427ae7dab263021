-- The words of this model, for the contracts, definitions and proofs of other crates.
pub use Rattle.cts_model.specs.Terms.{AdmitsPeriod, AreApart, AreChosen, AreFromZero, AreLeastArrivals, AreMarked, AreNoLess, AreOrdered, ArePadded, ArePathsOf, ArePathsWithin, AreReaches, AreShown, AreShownBy, AreSlacks, AreSmallConstraints, AreSmallSlacks, AreTreeSinks, AreUsedKinds, AreWiresDown, Assign, Blank, Captures, Close, ComesBefore, Comma, Definition, EachLead, EachShowsEarliest, Embedding, Entry, Equals, FailsHold, Follows, ForbidsPeriods, GivesUsedKinds, GivesWeight, HasNoHost, HasNoPeriod, HasReaches, HasSmallDelays, Header, InRegion, IsAdmitted, IsBelow, IsBetween, IsCheaper, IsCheapest, IsChosenPlace, IsCircuit, IsConstraintOf, IsCritical, IsCycle, IsDoubleCost, IsDrawn, IsEmbedding, IsEnough, IsFirstPair, IsFloorPeriod, IsForbidding, IsGate, IsGreatestSpan, IsGreedy, IsHoldConstraint, IsInput, IsLead, IsLeastForSchedule, IsLeastFraction, IsLeastPeriod, IsLeastPeriodOf, IsLeastSchedule, IsLeastSpare, IsLeastWire, IsLedBy, IsListed, IsLive, IsLoop, IsMarginPeriod, IsMerge, IsMultipleOf, IsNamedLoop, IsOn, IsPairDelay, IsPairShow, IsParent, IsPath, IsPeriodShow, IsPointBelow, IsPointMultipleOf, IsProblem, IsDoubleReach, IsReachDown, IsSatisfied, IsSetupConstraint, IsSlack, IsSlackOf, IsSmallConstraint, IsSmallPair, IsSmallPeriod, IsSmallSlack, IsSourceReach, IsStraight, IsTight, IsTightLead, IsTopology, IsTreeSink, IsUnion, IsUnjoined, IsUvBelow, IsUvMultipleOf, IsWithHost, IsZeroSkew, Joins, JoinsMoreThan, Launches, Leads, ListsPairs, MeetTwoByTwo, Meets, MeetsByWire, MeetsHold, MeetsSetup, NeedsPeriod, Node, Open, Output, Piece, Reads, RealisesOffsets, RealisesSchedule, Satisfies, ShowsEarliest, ShowsMerge, ShowsPeriod, ShowsSource, Stands, Statement, Stray, Token, Word, Words, apart, arrival_of, begins_with, begins_with_name_byte, constraint_line, count_line, count_of, cycle_lines, declaration_of, defined_names, definition_of, definitions_in, delay_of, depth_of, distance, embedding_of, entries_in, entries_of, entry_after, entry_of_words, first_mentions, floor_line, form_of, gate_input_count, gate_inputs, gate_inputs_of, greatest_delay, greatest_gate_delay, greatest_through, grid_of, has_begun, has_host, has_words, hold_spare, host_name, host_signal, inputs_of, is_gate, is_header, is_host, is_input, is_name, is_name_byte, is_named, is_orientation, is_oriented, is_register, is_remark, is_short, is_tail, is_valid, kind_of, lead_at, least_delay, least_gate_delay, least_through, line_for, line_of, mark_of, mention_of, more_inputs_of, names_in, names_of, no_delay, number_of, numbers_below, on_grid, onto_word, outputs_of, part_and, period_line, pieces, place_of, point_from, point_of, register_count, register_line, register_name, register_number, register_signal, registers_of, root_of, rotated, rotated_distance, scaled, scheduled_length, setup_spare, show_lines, signal_of, signals_of, sink_of, sinks_below, sinks_of, slack_text, source_of, span, statement_of, statements_in, steps_of_micro, text_of, tokens_of, total, total_count, total_length, total_offset, total_weight, total_wire, uses_of, words_in, y_len}
pub use Rattle.cts_model.specs.report.Judgements.{GivesPeriod, HasShape, HasSlack, HoldsTogether, IsDrawnEdge, IsEarliest, IsFromFloor, IsGivenPath, IsLongEnough, IsOfCircuit, IsReachShown, IsSkewed, MeetsAt, next_place}
pub use Rattle.cts_model.specs.report.OneProof.{leads_prop, size_prop, tree_prop, weights_prop}
pub use Rattle.cts_model.specs.report.ReportBounds.{HasSmallWeight, HasSmallWeights, HasTimingBounds, HasTreeBounds, IsBetweenRegisters, IsMergeShow, IsOfSize, IsSmallLead, IsSmallMerge, IsSmallWire, IsSourceShow, IsWithinBounds, LeadsAmong, ShowsAmong, ShowsPeriodAmong, Spells, count_in, cycle_length}
pub use Rattle.cts_model.specs.report.ReportLines.{lead_line, length_text, lines_below, merge_line_at, no_wire, node_line_at, number_at, origin, path_line, pathed_lines, period_show_lines, point_words, register_line_at, report_lines, show_words, signal_name, source_line, timing_lines, tree_lines, version_line, wire_words}
pub use Rattle.cts_model.specs.report.SaidReports.{ShowsWhatItSays}
pub use Rattle.cts_model.specs.report.Shown.{AtEach, IsShown, IsShownLeast, IsShownTiming, IsShownTree, ShowsLeast, cycle_of, sinks_in, source_in}
