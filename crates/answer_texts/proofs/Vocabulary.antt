-- The words that the proofs of this crate have in common.
pub use Rattle.std.proofs.Common.{◌≡◌, ◌<◌, ◌≤◌, inl, inr, ℕ, zero, suc, ℤ, true, List, [], ◌∷◌, ◌++◌, length, map, nat_abs, refl, ap, sym, subst, append-nil, arith, pos, ◌^◌, All, Option, Some, None, IsSomeAnd, get_or, slice_get, ◌*◌, drop, ◌∙◌, length-append, ◌⊎◌, Bool, false, replicate, ◌≢◌, ◌+◌, AllPairs, append_assoc, codes, Result, OnOk, ◌==◌, take, ap₂, slice_index_or, ◌+ℤ◌, ◌-ℤ◌}
pub use Rattle.std.proofs.Math.Seq.{drop-append_seam, take-append_seam}
pub use Rattle.std.proofs.lemmas.Bool.Decides.{Decides-eqb, nat_tests}
pub use Rattle.std.proofs.lemmas.Int.{ints}
pub use Rattle.std.proofs.lemmas.List.{length-map, length-replicate, drop-append-le, length-take, take-append-drop}
pub use Rattle.std.proofs.lemmas.List.Elements.{All-weaker, All-map, All-contains}
pub use Rattle.std.specs.List.{AllByRecursion, join_with_byte, position_or_len, range_with_len}
pub use Rattle.command_line.specs.declared.table.Form.{Form}
pub use Rattle.corners.specs.CornerCycles.{AreOfCorners, IsCommonShow, IsConstraintIn}
pub use Rattle.corners.specs.CornerOutcomes.{IsCornersOutcome, AreSmallCommonTimes}
pub use Rattle.corners.specs.declared.outcome.CornersOutcome.{CornersOutcome}
pub use Rattle.cts_base.specs.declared.fraction.Fraction.{Fraction}
pub use Rattle.cts_model.proofs.PathRegisters.{tails_within, tail_within, head_within, pair_from, pair_to}
pub use Rattle.cts_model.specs.declared.circuit.Circuit.{Circuit}
pub use Rattle.cts_model.specs.declared.constraint.Constraint.{Constraint}
pub use Rattle.cts_model.specs.declared.period.PeriodShow.{PeriodShow}
pub use Rattle.cts_model.specs.declared.period.PeriodShow.TheVariants.{Cycle, Floor}
pub use Rattle.cts_model.specs.declared.problem.Problem.{Problem}
pub use Rattle.cts_model.specs.declared.report.Report.{Report}
pub use Rattle.cts_model.specs.declared.report.Version.TheVariants.{First, Second}
pub use Rattle.cts_model.specs.declared.schedule.Schedule.{Schedule}
pub use Rattle.cts_model.specs.declared.schedule.Slack.{Slack}
pub use Rattle.cts_model.specs.declared.tech.Tech.{Tech}
pub use Rattle.cts_model.specs.declared.tree.Topology.{Topology}
pub use Rattle.cts_model.specs.Vocabulary.{IsBetweenRegisters, ShowsPeriodAmong, count_in, IsOfSize, report_lines, pathed_lines, period_show_lines, lines_below, lead_line, merge_line_at, source_line, node_line_at, length_text, tree_lines, Words, text_of, show_lines, count_line, line_for, cycle_lines, line_of, constraint_line, IsConstraintOf, IsCycle, HasNoPeriod, IsForbidding, IsLeastFraction, IsPeriodShow}
pub use Rattle.outcomes.specs.CircuitMargins.{IsMarginOutcome, HasNoPath}
pub use Rattle.outcomes.specs.declared.margin.MarginOutcome.{MarginOutcome}
pub use Rattle.report_text.proofs.LineLemmas.{more_lines}
pub use Rattle.report_text.proofs.OneLine.{IsWord, IsLine, one_text}
pub use Rattle.report_text.proofs.ReportWords.{report_lines_are, AreLines, appended, mapped, constraint_is, count_is, shown_are}
pub use Rattle.report_text.specs.Values.{wire_line}
pub use Rattle.answer_texts.specs.ArrivalTexts.{all_at_zero, CanPrint, arrival_line, arrival_lines}
pub use Rattle.answer_texts.specs.CornerTexts.{cornered_line_at, cornered_lines, common_show_lines, corners_lines, corners_status, IsCornersText, cornered_line}
pub use Rattle.answer_texts.specs.DemoTexts.{summary_lines, IsSummaryText, IsDemoText}
pub use Rattle.answer_texts.specs.Headline.{IsTreeText, IsSynthesisText, IsEmbeddingText}
pub use Rattle.answer_texts.specs.MarginTexts.{margin_lines, IsMarginText}
pub use Rattle.answer_texts.specs.NeverTexts.{never_lines, IsNeverText, IsFoundOrNever}
pub use Rattle.answer_texts.specs.PeriodTexts.{period_lines, outcome_status, IsLeastText, IsPeriodText, found_lines}
pub use Rattle.answer_texts.specs.ScheduleTexts.{schedule_lines, IsScheduledText, IsScheduleText, scheduled_line_at, register_lines}
pub use Rattle.answer_texts.specs.SynthTexts.{IsCheckable, IsSynthText, IsEmbedText, synthesis_lines, synthesis_status}
pub use Rattle.answer_texts.specs.ZeroTexts.{zero_lines, IsZeroText}
