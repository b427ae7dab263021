-- The words that the proofs of this crate have in common.
pub use Rattle.std.proofs.Common.{ℕ, inl, inr, List, [], Option, Result, Ok, Err, IfOk, IfErr, refl, Bor, ◌≡◌, ◌<◌, ◌≤◌, ◌+◌, suc, ◌∷◌, ◌++◌, length, map, take, drop, drop-cons, get_or, String, Global, string_bytes, ap, sym, ◌∙◌, subst, arith, ◌||◌, Bool, true, false, ◌⊎◌, ap₂, ◌≢◌, Some, append-nil, ◌==◌, None, replicate, append_assoc, if◌then◌else◌, IfSome, codes, IsErrOf, ℤ, ◌^◌, to_z, of_z, pos, length-append}
pub use Rattle.std.proofs.lemmas.Int.{ints}
pub use Rattle.std.proofs.lemmas.List.{take-append-drop, length-map, length-take-le, map-append, map_more, length-replicate, append_cancel_left, map_push, take_all, take_more}
pub use Rattle.std.proofs.lemmas.Result.{IfErr-weaker, IfOk-weaker, err_from_is_err_and}
pub use Rattle.std.specs.List.{flat_map, All}
pub use mir.Syntax.{w128}
pub use Rattle.answer_texts.proofs.OutcomeTexts.{corners_says, embed_says, made_with, period_says, schedule_says, synth_says}
pub use Rattle.answer_texts.specs.Endings.{ending_status}
pub use Rattle.answer_texts.specs.MoveTexts.{AreWires, IsTreeWire, IsWireAt, IsWiresText, moved_places}
pub use Rattle.answer_texts.specs.declared.answer.Answer.{Answer}
pub use Rattle.answer_texts.specs.declared.answer.Ending.{Ending}
pub use Rattle.cert_check.specs.declared.verdict.Reason.{Reason}
pub use Rattle.command_line.specs.CommandTable.{command_form}
pub use Rattle.command_line.specs.Commands.{is_number_within, is_period, HasValidValues, Given, IsCommand, options_of, tables_of, IsSame}
pub use Rattle.command_line.specs.declared.command.Command.{Command}
pub use Rattle.command_line.specs.declared.command.Command.TheVariants.{Demo, Margin, Check, Zero, Corners, Embed, Period, Synth}
pub use Rattle.command_line.specs.declared.table.Form.{Form}
pub use Rattle.cts_base.proofs.Told.{told_err, told_ok}
pub use Rattle.cts_engine.proofs.ProblemLemmas.{near_coordinate, problem_of}
pub use Rattle.cts_engine.specs.Accepted.{IsHostedBy, TellsDelays, HasFaultFor}
pub use Rattle.cts_engine.specs.SessionOutcomes.{IsSessionOf, StandsAt, IsGrid}
pub use Rattle.cts_model.proofs.SkewLemmas.{length-sinks_of}
pub use Rattle.cts_model.specs.declared.circuit.Circuit.{Circuit}
pub use Rattle.cts_model.specs.declared.problem.Problem.{Problem}
pub use Rattle.cts_model.specs.declared.tech.Tech.{Tech}
pub use Rattle.cts_model.specs.Vocabulary.{line_of, text_of}
pub use Rattle.failure_lines.specs.Failures.{status_of}
pub use Rattle.cert_check.specs.Reasons.{reason_numbers}
pub use Rattle.failure_lines.specs.Refusals.{report_failure_of, reason_failure_of, subject_words, bench_failure_of, tech_failure_of, place_failure_of, topology_failure_of, moves_failure_of, words_failure_of}
pub use Rattle.failure_lines.specs.declared.failure.Failure.{Failure}
pub use Rattle.failure_lines.specs.declared.failure.Failure.TheVariants.{TooLong, Usage, Refused, WriteFault, ReadFault}
pub use Rattle.failure_lines.specs.declared.file_kind.FileKind.{FileKind}
pub use Rattle.failure_lines.specs.declared.file_kind.FileKind.TheVariants.{Bench, Corner, Report, Placement, Topology, Moves}
pub use Rattle.move_session.specs.Moves.{moves_in}
pub use Rattle.move_session.specs.declared.moves.Move.{Move}
pub use Rattle.place_reader.specs.declared.fault.PlaceFault.{PlaceFault}
pub use Rattle.report_text.specs.Values.{wire_line}
pub use Rattle.report_text.specs.declared.fault.ReportFault.{ReportFault}
pub use Rattle.cts_program.specs.Answers.{IsUnshown, RefusesTold, IsAnswer, IsRefusal, kinds_for, texts_for, judged_kinds, Tells, IsText, IsAccepted, IsStatusOf, FindsNoPeriod, number_given, value_given, AdmitsNone, kinds_in, JoinTooMany}
pub use Rattle.cts_program.specs.Documents.{IsAcceptedAs, IsRefusedAs, Tell, RefusesFirst, Refuses, DiffersFromFirst, Means}
unfoldable pub use Rattle.cts_program.specs.Files.{request_of}
pub use Rattle.cts_program.specs.Files.{corner_files, NamedFile, Request, IsShortFile, AreContents, Ask, AreDenoted, files_of, problem_files, circuit_files}
pub use Rattle.cts_program.specs.MoveSteps.{AppendsWire, IsNearMove}
pub use Rattle.cts_program.specs.Run.{DenotesText, Stops, refused, wants_memory, IsNoCommand, RefusesRequest, CannotRead, EndsInPart, unread, Fails, usage, stops, unwritten, NoneRose}
pub use Rattle.cts_program.specs.Steps.{OrMemory, IsStep, IsRead, IsUnread, AreRead, AreUnread, IsReportedAs, IsServed, FailsCircuit}
pub use Rattle.cts_program.specs.Told.{reported, Told, bare, TellsCircuit, placed, nothing, timed, joined, moving, TellsTech, IsTimedSo}
