-- What the command `demo` prints: a summary of the clock tree of a demonstration, which `check`
-- shows, or what forbids every period.
use Rattle.std.specs.Prelude.{◌≡◌, ℕ, List, [], ◌∷◌, codes}
use Rattle.answer_texts.specs.Types.{Problem, Report}
use Rattle.cts_model.specs.Vocabulary.{Words, text_of, count_line, period_line, IsWithinBounds, length_text}
use Rattle.cert_check.specs.declared.verdict.Verdict.TheVariants.{Shown}
use Rattle.cert_check.specs.Verdicts.{IsVerdict}
use Rattle.answer_texts.specs.CheckTexts.{shown_line}
use Rattle.answer_texts.specs.Headline.{IsSynthesisText}
use Rattle.answer_texts.specs.NeverTexts.{IsNeverText, IsFoundOrNever}

-- how many registers there are, the period in ticks, the wire in length units, and that the report
-- is shown
abbrev pub summary_lines : (registers : ℕ) → Report → List Words
summary_lines registers report =
    count_line (codes "registers") registers ∷ period_line report.period
    ∷ (codes "wire" ∷ length_text report report.total ∷ []) ∷ shown_line ∷ []

-- the bytes are the summary of a clock tree that `synth` could print for the problem, and `check`
-- shows its report
pub record IsSummaryText (registers : ℕ) (problem : Problem) (text : List ℕ) : Type 0 where
  pub printed : List ℕ
  pub tree : IsSynthesisText problem printed
  pub bounds : IsWithinBounds problem.tech tree.tree.report
  pub checked : IsVerdict problem tree.tree.report Shown
  pub spelled : text ≡ text_of (summary_lines registers tree.tree.report)

-- the bytes are a text for the problem of a demonstration, with its status
abbrev pub IsDemoText : (registers : ℕ) → Problem → (status : ℕ) → List ℕ → Type 0
IsDemoText registers problem = IsFoundOrNever (IsSummaryText registers problem)
    (IsNeverText problem.circuit problem.tech)
