use Rattle.cts_program.proofs.Vocabulary.{ℕ, ◌∙◌, inl, ap, sym, subject_words}
use Rattle.cert_check.specs.declared.verdict.Subject.{Subject}
use Rattle.failure_lines.specs.declared.failure.Failure.TheVariants.{Unshown}
use Rattle.cts_program.proofs.ReasonLemmas.{reason_within}
use Rattle.cts_program.proofs.check.check.Goals as goal

pub subject_words-requires : goal.subject_words-requires
subject_words-requires c register is =
    reason_within c.args.problem.now c.args.report.now c.requires.size c.in-Not.reason
    (rw c.in-Not.is at c.in_ok-check.ensures.verdict) register
    (ap (λ numbers. numbers.1) (sym c.number_and_subject-number.ensures) ∙ is)

pub returns-in_ok-subject_words-in-Not-clause-cause :
    goal.returns-in_ok-subject_words-in-Not-clause-cause
returns-in_ok-subject_words-in-Not-clause-cause c = inl (
  c.in-Not.reason,
  ap (Unshown c.number_and_subject-number.result.0) c.in_ok-subject_words-in-Not.ensures
      ∙ ap (λ (numbers : ℕ × Subject). Unshown numbers.0
      (subject_words c.args.problem.now.circuit numbers.1)) c.number_and_subject-number.ensures,
  rw c.in-Not.is at c.in_ok-check.ensures.verdict,
)
