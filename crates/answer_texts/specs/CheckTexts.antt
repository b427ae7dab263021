-- What the command `check` says of a report, whoever made it: that it shows what it says of the
-- problem, or why it doesn't. Fishburn 1990; Boese and Kahng 1992; Chao and others 1992.
use Rattle.std.specs.Prelude.{◌≡◌, ℕ, List, [], ◌∷◌, codes}
use Rattle.answer_texts.specs.Types.{Problem, Report}
use Rattle.cts_model.specs.Vocabulary.{Words, text_of, ShowsLeast}
use Rattle.cert_check.specs.Verdicts.{IsVerdict}
use Rattle.cert_check.specs.declared.verdict.Verdict.TheVariants.{Shown}

-- the line for a report that is shown
abbrev pub shown_line : Words
shown_line = codes "shown" ∷ []

-- the bytes say that the report shows what it says of the problem, and so that is true
pub record IsCheckText (problem : Problem) (report : Report) (text : List ℕ) : Type 0 where
  pub shown : IsVerdict problem report Shown
  pub least : ShowsLeast problem report
  pub spelled : text ≡ text_of (shown_line ∷ [])
