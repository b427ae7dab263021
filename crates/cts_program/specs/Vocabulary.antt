-- The words that the contracts of this crate have in common.
pub use Rattle.std.specs.IoError.{error_kind}
pub use Rattle.std.specs.Process.{exit_status}
pub use Rattle.answer_texts.specs.CheckTexts.{IsCheckText}
pub use Rattle.answer_texts.specs.CornerTexts.{IsCornersText}
pub use Rattle.answer_texts.specs.DemoTexts.{IsDemoText}
pub use Rattle.answer_texts.specs.Endings.{ending_status}
pub use Rattle.answer_texts.specs.MarginTexts.{IsMarginText}
pub use Rattle.answer_texts.specs.MoveTexts.{IsMovesText, IsWiresText}
pub use Rattle.answer_texts.specs.PeriodTexts.{IsPeriodText}
pub use Rattle.answer_texts.specs.ScheduleTexts.{IsScheduleText}
pub use Rattle.answer_texts.specs.SynthTexts.{IsSynthText, IsEmbedText}
pub use Rattle.answer_texts.specs.ZeroTexts.{IsZeroText}
pub use Rattle.cert_check.specs.Verdicts.{IsVerdict}
pub use Rattle.command_line.specs.Commands.{is_period, numeral_value, is_number_within, HasValidTables, HasValidValues}
pub use Rattle.cts_base.specs.Fractions.{fraction_text}
pub use Rattle.cts_engine.specs.SessionOutcomes.{IsGrid, IsSessionOf}
pub use Rattle.cts_io.specs.Device.{Rose}
pub use Rattle.cts_model.specs.Vocabulary.{IsLoop, JoinsMoreThan, IsMarginPeriod, IsTopology, IsOfSize, IsWithinBounds, IsShown}
pub use Rattle.cts_model.specs.declared.problem.Problem.{Problem}
pub use Rattle.cts_model.specs.table.Tables.{IsWithin}
pub use Rattle.failure_lines.specs.Failures.{status_of, failure_line, Reports}
pub use Rattle.failure_lines.specs.Refusals.{place_failure_of, subject_words}
pub use Rattle.failure_lines.specs.declared.failure.Failure.{Failure}
pub use Rattle.failure_lines.specs.declared.file_kind.FileKind.{FileKind}
pub use Rattle.outcomes.specs.SynthesisOutcomes.{BeginsLowest, IsOutcome, IsShownOutcome}
pub use Rattle.cts_program.specs.Answers.{is_ending, IsUnshown, problem_kinds, IsAnswer, IsRefusal}
pub use Rattle.cts_program.specs.DemoFiles.{demo_texts}
pub use Rattle.cts_program.specs.Documents.{Tell, RefusesFirst, Means, Refuses, DiffersFromFirst}
pub use Rattle.cts_program.specs.Files.{Request, Ask, AreDenoted, request_of, circuit_files, corner_files, IsShortFile, problem_files}
pub use Rattle.cts_program.specs.MoveSteps.{AppendsWire, IsNearMove}
pub use Rattle.cts_program.specs.Run.{Ends, EndsFor, Keeps, Reported, ShowsFaults, IsNoCommand, RefusesRequest, CannotRead, EndsInPart, Fails}
pub use Rattle.cts_program.specs.Steps.{FailsCircuit, OrMemory, IsServed, AreRead, AreServed, AreUnread, IsStep, TellCorners, IsRead, IsUnread, IsBare}
pub use Rattle.cts_program.specs.Told.{reported, nothing, placed, timed, Told, bare, joined, moving}
