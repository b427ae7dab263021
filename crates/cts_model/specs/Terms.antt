-- The words of netlists, texts, placements, timing and trees, for the definitions of reports.
pub use Rattle.cts_model.specs.netlist.Circuits.{IsCircuit, gate_inputs, has_host, host_name, host_signal, is_named, register_number, registers_of}
pub use Rattle.cts_model.specs.netlist.Definitions.{defined_names, definitions_in, gate_input_count, gate_inputs_of, register_count, statements_in}
pub use Rattle.cts_model.specs.netlist.Hosts.{HasNoHost, IsWithHost}
pub use Rattle.cts_model.specs.netlist.Kinds.{is_gate, is_host, is_input, is_register, is_valid, kind_of, place_of}
pub use Rattle.cts_model.specs.netlist.Netlists.{first_mentions, names_in, number_of, outputs_of, signal_of, signals_of}
pub use Rattle.cts_model.specs.netlist.Paths.{Captures, Follows, IsGate, IsInput, IsLoop, IsNamedLoop, IsPath, Launches, Reads, register_name, register_signal}
pub use Rattle.cts_model.specs.netlist.Statements.{Assign, Definition, Output, Statement, declaration_of, definition_of, form_of, inputs_of, mention_of, more_inputs_of, names_of, statement_of, uses_of}
pub use Rattle.cts_model.specs.netlist.UsedKinds.{AreUsedKinds}
pub use Rattle.cts_model.specs.placement.Coordinates.{point_from, point_of}
pub use Rattle.cts_model.specs.placement.PlaceLines.{Blank, Entry, Header, Node, Stands, begins_with, entry_after, entry_of_words, has_begun, is_header, is_orientation, is_oriented, is_remark, is_tail, part_and, y_len}
pub use Rattle.cts_model.specs.placement.Points.{IsBelow, IsMultipleOf, IsPointBelow, IsPointMultipleOf, IsUvBelow, IsUvMultipleOf, apart, distance, rotated, rotated_distance, scaled}
pub use Rattle.cts_model.specs.text.Entries.{entries_in, entries_of, has_words, words_in}
pub use Rattle.cts_model.specs.text.Names.{is_name, is_name_byte, is_short}
pub use Rattle.cts_model.specs.text.PrintedLines.{Words, constraint_line, count_line, cycle_lines, floor_line, line_for, line_of, period_line, register_line, show_lines, slack_text, text_of}
pub use Rattle.cts_model.specs.text.Tokens.{Close, Comma, Equals, Open, Stray, Token, Word, begins_with_name_byte, mark_of, onto_word, tokens_of}
pub use Rattle.cts_model.specs.timing.ConstraintPaths.{ArePathsOf, ArePathsWithin, GivesWeight}
pub use Rattle.cts_model.specs.timing.Constraints.{AreSmallConstraints, IsConstraintOf, IsHoldConstraint, IsSatisfied, IsSetupConstraint, IsSmallConstraint, Satisfies, count_of}
pub use Rattle.cts_model.specs.timing.Cycles.{AdmitsPeriod, ForbidsPeriods, IsCycle, IsLeastPeriodOf, Leads, ShowsPeriod, total_count, total_weight}
pub use Rattle.cts_model.specs.timing.Delays.{delay_of, greatest_delay, greatest_gate_delay, greatest_through, least_delay, least_gate_delay, least_through, no_delay}
pub use Rattle.cts_model.specs.timing.EqualArrivals.{ComesBefore, FailsHold, IsEnough, IsFirstPair, IsPairDelay, IsZeroSkew, NeedsPeriod}
pub use Rattle.cts_model.specs.timing.Leads.{EachLead, EachShowsEarliest, IsLead, IsLedBy, IsTight, IsTightLead, ShowsEarliest, depth_of, lead_at}
pub use Rattle.cts_model.specs.timing.LeastPeriods.{HasNoPeriod, IsCritical, IsFloorPeriod, IsForbidding, IsLeastFraction, IsPeriodShow}
pub use Rattle.cts_model.specs.timing.PairLists.{AreOrdered, HasSmallDelays, IsListed, IsSmallPair, JoinsMoreThan, ListsPairs}
pub use Rattle.cts_model.specs.timing.Schedules.{AreFromZero, AreLeastArrivals, IsLeastSchedule, IsMarginPeriod, IsSmallPeriod, arrival_of}
pub use Rattle.cts_model.specs.timing.Slacks.{AreSlacks, AreSmallSlacks, IsLeastSpare, IsSlack, IsSlackOf, IsSmallSlack, hold_spare, setup_spare}
pub use Rattle.cts_model.specs.timing.Timing.{IsAdmitted, IsLeastPeriod, Meets, MeetsHold, MeetsSetup}
pub use Rattle.cts_model.specs.tree.ChosenPlaces.{AreChosen, IsChosenPlace, IsSourceReach}
pub use Rattle.cts_model.specs.tree.DrawnWires.{AreApart, ArePadded, IsBetween, IsDrawn, IsOn, IsStraight, Piece, pieces, total}
pub use Rattle.cts_model.specs.tree.Embeddings.{AreWiresDown, Embedding, IsEmbedding, IsLeastWire, RealisesOffsets, embedding_of, total_length, total_wire}
pub use Rattle.cts_model.specs.tree.GreedyMerges.{IsCheaper, IsCheapest, IsDoubleCost, IsGreedy}
pub use Rattle.cts_model.specs.tree.Marks.{AreMarked, IsUnjoined}
pub use Rattle.cts_model.specs.tree.Problems.{GivesUsedKinds, IsProblem, grid_of, on_grid, scheduled_length, sink_of, sinks_of, steps_of_micro}
pub use Rattle.cts_model.specs.tree.Reaches.{AreNoLess, HasReaches, total_offset}
pub use Rattle.cts_model.specs.tree.RealisedSchedules.{IsLeastForSchedule, RealisesSchedule}
pub use Rattle.cts_model.specs.tree.Regions.{InRegion, IsGreatestSpan, IsDoubleReach, IsUnion, MeetTwoByTwo, span}
pub use Rattle.cts_model.specs.tree.ShownReaches.{AreReaches, AreShown, AreShownBy, IsPairShow, ShowsMerge, ShowsSource}
pub use Rattle.cts_model.specs.tree.Sinks.{AreTreeSinks, IsTreeSink}
pub use Rattle.cts_model.specs.tree.Topologies.{IsLive, IsMerge, IsParent, IsTopology, Joins, numbers_below, root_of, sinks_below, source_of}
pub use Rattle.cts_model.specs.tree.WaysDown.{IsReachDown}
pub use Rattle.cts_model.specs.tree.WireDelays.{MeetsByWire}
