-- The words that the contracts of this crate have in common.
pub use Rattle.cts_model.specs.Vocabulary.{size_prop}
pub use Rattle.cts_model.specs.declared.tree.Show.TheVariants.{Root}
pub use Rattle.report_text.specs.Common.{is_line_feed, quotient_text, IsBelow, fraction_text, SpellsWhole, SpellsQuotient, HaveSmallSizes, Circuit, Report, Second, Tech, register_name, IsPointBelow, count_in, ShowsPeriodAmong, Spells, IsSmallWire, HasSmallWeight, IsBetweenRegisters, LeadsAmong, ShowsAmong, IsOfSize, IsWithinBounds, lead_line, no_wire, period_show_lines, version_line, signal_name, path_line, show_words, report_lines, register_line_at, lines_below, timing_lines, length_text, merge_line_at, node_line_at, point_words, source_line, tree_lines, wire_words, Words, count_line, period_line, register_line, line_for, text_of, slack_text, line_of, constraint_line, cycle_lines, show_lines, IsSmallPeriod, arrival_of, IsSmallSlack, ArePadded, register_names, Extra, BadLine, Missing, UnknownRegister, NoMemory, ReportFault, LineForm, Scale, signed_decimal, range_with_len, flat_map}
pub use Rattle.report_text.specs.Fields.{AreSteps, WordHasFlaw, HasStepsFlaw, IsBetween, IsNegativeQuotient, IsRefusedFor, IsNumberOf, signal_names}
pub use Rattle.report_text.specs.Forms.{forms_after, cycle_forms, is_word, length_field, register_named, slack_field, constraint_fields, version_text}
pub use Rattle.report_text.specs.LineFields.{Period, Slack, Steps}
pub use Rattle.report_text.specs.Parts.{HasBody, begin_of, report_denoted, sink_reach, HasHeading, HasShown, HasParts, scale_in, whole}
pub use Rattle.report_text.specs.ReportFaults.{OneReport, OneFault, NoFaultOfReport, ReportOfNoFault, HasFaultOrReport, spaced_words, HasFault, flaw_fault, unknown_on}
pub use Rattle.report_text.specs.Values.{suffix, wire_line, HasSmallLengths, IsSmallCount, DenotesTimed, period_shown_line, DenotesConstraint, DenotesPath, DenotesLead, IsSmallScale, SaysMerge, SaysNode, SaysSource, coordinates}
pub use Rattle.report_text.specs.Walks.{rank, sooner_flaw, flaw_in, ReadsForm, LineLeft, EndsIn, Keeps, Takes, TakesNext, Counted, HasPathed, HasRows, Left, TakesLine, Stops, DenotesLine, ReadsLine, StopsLine}
