-- The words that the contracts of this crate have in common.
pub use Rattle.std.specs.Fmt.{signed_decimal}
pub use Rattle.corners.specs.CornerCycles.{IsCommonShow}
pub use Rattle.corners.specs.CornerOutcomes.{HasSmallCommonTimes, IsCornersOutcome}
pub use Rattle.cts_base.specs.declared.fraction.Fraction.{Fraction}
pub use Rattle.cts_model.specs.Vocabulary.{text_of, IsForbidding, line_of, constraint_line, IsBetweenRegisters, IsPeriodShow, IsWithinBounds, IsZeroSkew, HasSmallDelays}
pub use Rattle.outcomes.specs.CircuitMargins.{IsMarginOutcome, IsSmallOutcome}
pub use Rattle.outcomes.specs.PeriodOutcomes.{IsPeriodOutcome}
pub use Rattle.outcomes.specs.ScheduleOutcomes.{period_outcome, HasSmallTimes, IsScheduleOutcome}
pub use Rattle.outcomes.specs.SynthesisOutcomes.{IsOutcomeWith}
pub use Rattle.answer_texts.specs.ArrivalTexts.{CanPrint, all_at_zero, arrival_line, arrival_lines}
pub use Rattle.answer_texts.specs.CornerTexts.{cornered_line, cornered_line_at, cornered_lines, common_show_lines, corners_lines, corners_status}
pub use Rattle.answer_texts.specs.DemoTexts.{summary_lines}
pub use Rattle.answer_texts.specs.Endings.{ending_status}
pub use Rattle.answer_texts.specs.MarginTexts.{margin_line, margin_lines, spared_lines}
pub use Rattle.answer_texts.specs.NeverTexts.{never_lines}
pub use Rattle.answer_texts.specs.PeriodTexts.{zero_line, found_lines, period_lines, outcome_status}
pub use Rattle.answer_texts.specs.ScheduleTexts.{IsSmallSchedule, scheduled_line_at, register_lines, schedule_lines}
pub use Rattle.answer_texts.specs.SynthTexts.{synthesis_lines, synthesis_status}
pub use Rattle.answer_texts.specs.Types.{Tech, Topology}
pub use Rattle.answer_texts.specs.ZeroTexts.{reason_line, zero_lines}
