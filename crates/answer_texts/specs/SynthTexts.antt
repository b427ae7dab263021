-- What the commands `synth` and `embed` print: the report of a clock tree, or what forbids every
-- period. Fishburn, "Clock Skew Optimization", 1990.
use Rattle.std.specs.Prelude.{ℕ, List}
use Rattle.answer_texts.specs.Types.{Circuit, Problem, Report, Topology}
use Rattle.cts_model.specs.Vocabulary.{Words, IsWithinBounds, report_lines}
use Rattle.cert_check.specs.Verdicts.{IsVerdict}
use Rattle.cert_check.specs.declared.verdict.Verdict.TheVariants.{Shown}
use Rattle.outcomes.specs.declared.synthesis.Outcome.{Outcome}
use Rattle.outcomes.specs.declared.synthesis.Outcome.TheVariants.{Done, Never}
use Rattle.answer_texts.specs.Headline.{IsSynthesisText, IsEmbeddingText}
use Rattle.answer_texts.specs.NeverTexts.{never_lines, IsNeverText, IsFoundOrNever}

-- `check` reads such a report from its lines, and shows it
pub record IsCheckable (problem : Problem) (report : Report) : Type 0 where
  pub bounds : IsWithinBounds problem.tech report
  pub shown : IsVerdict problem report Shown

-- the bytes are a text for the problem, with its status; `check` shows a tree's report
abbrev pub IsSynthText : Problem → (status : ℕ) → List ℕ → Type 0
IsSynthText problem = IsFoundOrNever
    (λ bytes. (is : IsSynthesisText problem bytes) × IsCheckable problem is.tree.report)
    (IsNeverText problem.circuit problem.tech)

-- or for the problem by this topology
abbrev pub IsEmbedText : Problem → Topology → (status : ℕ) → List ℕ → Type 0
IsEmbedText problem topology = IsFoundOrNever
    (λ bytes. (is : IsEmbeddingText problem topology bytes) × IsCheckable problem is.tree.report)
    (IsNeverText problem.circuit problem.tech)

-- the lines for an outcome
abbrev pub synthesis_lines : Circuit → Outcome → List Words
synthesis_lines circuit (Done report) = report_lines circuit report
synthesis_lines circuit (Never cycle) = never_lines circuit cycle

-- the exit status for an outcome
abbrev pub synthesis_status : Outcome → ℕ
synthesis_status (Done report) = 0
synthesis_status (Never cycle) = 1
