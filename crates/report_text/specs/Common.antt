-- The words that the definitions of this crate have in common.
pub use Rattle.cts_base.specs.Fractions.{quotient_text, IsBelow, IsLowest, fraction_text}
pub use Rattle.cts_base.specs.Lines.{is_line_feed}
pub use Rattle.cts_base.specs.NumberTexts.{SpellsWhole, SpellsQuotient, HaveSmallSizes, IsLargeQuotient, IsNoFraction, is_slash}
pub use Rattle.cts_base.specs.declared.fraction.Fraction.{Fraction}
pub use Rattle.cts_model.specs.declared.circuit.Circuit.{Circuit}
pub use Rattle.cts_model.specs.declared.constraint.Constraint.{Constraint}
pub use Rattle.cts_model.specs.declared.place.Point.{Point}
pub use Rattle.cts_model.specs.declared.report.Report.{Report}
pub use Rattle.cts_model.specs.declared.report.Version.TheVariants.{First, Second}
pub use Rattle.cts_model.specs.declared.report.Version.{Version}
pub use Rattle.cts_model.specs.declared.schedule.Lead.{Lead}
pub use Rattle.cts_model.specs.declared.tech.Tech.{Tech}
pub use Rattle.cts_model.specs.declared.tree.Wire.{Wire}
pub use Rattle.cts_model.specs.Vocabulary.{register_name, IsPointBelow, count_in, HasSmallWeights, ShowsPeriodAmong, cycle_length, Spells, IsSmallWire, HasSmallWeight, IsBetweenRegisters, LeadsAmong, IsSmallLead, IsMergeShow, IsSmallMerge, IsSourceShow, ShowsAmong, IsOfSize, IsWithinBounds, HasTimingBounds, lead_line, no_wire, origin, period_show_lines, version_line, signal_name, pathed_lines, path_line, show_words, report_lines, register_line_at, lines_below, timing_lines, length_text, merge_line_at, node_line_at, number_at, point_words, source_line, tree_lines, wire_words, Words, count_line, period_line, register_line, floor_line, line_for, text_of, slack_text, line_of, constraint_line, cycle_lines, show_lines, IsSmallPeriod, arrival_of, AreSmallSlacks, IsSmallSlack, ArePadded, grid_of, scheduled_length}
pub use Rattle.name_set.specs.RegisterNames.{register_names}
pub use Rattle.report_text.specs.declared.fault.ReportFault.TheVariants.{BadLine, UnknownRegister, Missing, Extra, TooLarge, UnknownSignal, NoMemory}
pub use Rattle.report_text.specs.declared.fault.ReportFault.{ReportFault}
pub use Rattle.report_text.specs.declared.field.Flaw.{Flaw}
pub use Rattle.report_text.specs.LineForms.{LineForm}
pub use Rattle.report_text.specs.declared.field.Scale.{Scale}
pub use Rattle.report_text.specs.declared.sections.Body.{Body}
pub use Rattle.report_text.specs.declared.sections.Heading.{Heading}
pub use Rattle.report_text.specs.declared.sections.Parts.{Parts}
pub use Rattle.report_text.specs.declared.sections.Shown.{Shown}
pub use Rattle.report_text.specs.declared.timing_values.Timed.{Timed}
pub use Rattle.report_text.specs.declared.tree_values.MergeLine.{MergeLine}
pub use Rattle.report_text.specs.declared.tree_values.NodeLine.{NodeLine}
pub use Rattle.report_text.specs.declared.tree_values.SourceLine.{SourceLine}
pub use Rattle.std.specs.Fmt.{signed_decimal}
pub use Rattle.std.specs.List.{position_or_len, range_with_len, flat_map, after_first, slice_split, list_any}
pub use Rattle.std.specs.Str.Parse.{digits_value}
pub use Rattle.std.specs.Str.{bytes_eq}
