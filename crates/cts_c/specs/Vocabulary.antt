-- The words that the contracts of this crate have in common.
pub use Rattle.answer_texts.specs.Endings.{ending_status}
pub use Rattle.answer_texts.specs.ScheduleTexts.{IsScheduleText}
pub use Rattle.answer_texts.specs.SynthTexts.{IsSynthText}
pub use Rattle.cts_engine.specs.Accepted.{TellAll, TellBoth}
pub use Rattle.cts_model.specs.Vocabulary.{IsLoop, JoinsMoreThan}
pub use Rattle.cts_model.specs.declared.circuit.Circuit.{Circuit}
pub use Rattle.cts_model.specs.declared.problem.Problem.{Problem}
pub use Rattle.cts_model.specs.declared.tech.Tech.{Tech}
pub use Rattle.cts_c.specs.Buffers.{IsHanded, IsTooLarge, IsNone}
pub use Rattle.cts_c.specs.Findings.{IsJudged, IsShownReport, IsCheck}
pub use Rattle.cts_c.specs.Refusals.{AreAllShort, AreRefused, FailsFor, AreBothShort, RefusesSchedule, RefusesTree, IsShort, AreBothRefused}
pub use Rattle.cts_c.specs.Statuses.{IsEnding, IsFailure, IsStatus}
pub use Rattle.cts_c.specs.TextAnswers.{IsAnswered, IsScheduleAnswer, IsTreeAnswer}
