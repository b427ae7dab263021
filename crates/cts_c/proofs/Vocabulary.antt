-- The words that the proofs of this crate have in common.
pub use Rattle.std.proofs.Common.{◌≡◌, ℕ, List, inr, refl, ◌≢◌, ◌↔◌, ◌⊎◌, inl, sym, ap, ◌∙◌, subst, arith, Ok, Err}
pub use Rattle.std.proofs.lemmas.Result.{err_from_is_err_and, IfErr-weaker, IfOk-weaker}
pub use Rattle.answer_texts.specs.Endings.{ending_status}
pub use Rattle.cts_engine.proofs.OneProblem.{table_accepted, table_fine, one_problem, one_both}
pub use Rattle.cts_model.specs.Vocabulary.{JoinsMoreThan}
pub use Rattle.cts_c.specs.Findings.{IsShownReport, judged_status}
pub use Rattle.cts_c.specs.Refusals.{AreBothRefused, AreRefused, FailsFor}
pub use Rattle.cts_c.specs.Statuses.{refusal_failure, pair_failure, failure_status, IsEnding, IsFailure, IsStatus}
pub use Rattle.cts_c.specs.declared.failure.Failure.{Failure}
pub use Rattle.cts_c.specs.declared.failure.Failure.TheVariants.{Refused, NoMemory}
