-- How the lines of each text are counted, and what its status says.
use Rattle.answer_texts.proofs.Vocabulary.{◌≡◌, ◌<◌, ◌⊎◌, inl, inr, ℕ, zero, suc, Bool, true, false, List, [], ◌∷◌, ◌++◌, length, replicate, Circuit, Second, Words, text_of, Form, HasNoPath, AreLines}
use Rattle.command_line.specs.declared.table.Form.TheVariants as forms
use Rattle.answer_texts.proofs.CountedLines.{AreCounted}
use Rattle.answer_texts.proofs.LineCounts.{report_plan}

-- a command of this form looks for a period, and has status 1 where none is admitted
abbrev pub looks_for_period : Form → Bool
looks_for_period forms.Zero = false
looks_for_period forms.Check = false
looks_for_period forms.Margin = false
looks_for_period form = true

-- what the status of a text says, where this is what it comes to that no period is admitted
abbrev pub SaysOfPeriods : (looks : Bool) → (None : Type 0) → (status : ℕ) → Type 0
SaysOfPeriods false None status = status ≡ 0
SaysOfPeriods true None status = ((status ≡ 0) × (None → ⊥)) ⊎ ((status ≡ 1) × None)

-- the plan by which the lines of a text are counted
abbrev pub plan_of : (status : ℕ) → Form → List ℕ
plan_of zero forms.Zero = 0 ∷ 0 ∷ []
plan_of zero forms.Period = 0 ∷ 0 ∷ 1 ∷ []
plan_of zero forms.Schedule = 0 ∷ 0 ∷ 1 ∷ 1 ∷ []
plan_of zero forms.Synth = report_plan Second
plan_of zero forms.Check = 0 ∷ []
plan_of zero forms.Demo = 0 ∷ 0 ∷ 0 ∷ 0 ∷ []
plan_of zero forms.Embed = report_plan Second
plan_of zero forms.Margin = 0 ∷ 0 ∷ 1 ∷ 1 ∷ []
plan_of zero forms.Moves = 0 ∷ []
plan_of zero forms.Corners = 0 ∷ 1 ∷ 1 ∷ []
plan_of (suc more) form = 0 ∷ 1 ∷ []

-- the same where so many moves are given, each of which has a line with status 0
abbrev pub plan_with : (moves status : ℕ) → Form → List ℕ
plan_with moves zero form = replicate moves 0 ++ plan_of zero form
plan_with moves (suc more) form = plan_of (suc more) form

-- the lines are counted by the plan; where no path joins two registers, those of a margin name no
-- cycle
abbrev pub IsCounted : (moves : ℕ) → Form → (status : ℕ) → Circuit → List Words → Type 0
IsCounted moves forms.Margin status circuit lines =
    (HasNoPath circuit × AreCounted (0 ∷ 0 ∷ 1 ∷ []) lines)
    ⊎ ((HasNoPath circuit → ⊥) × AreCounted (plan_with moves status forms.Margin) lines)
IsCounted moves form status circuit lines = AreCounted (plan_with moves status form) lines

-- two lists of lines of one circuit are counted by one plan
pub one_plan : (moves : ℕ) (form : Form) (status : ℕ) (circuit : Circuit)
    (lines others : List Words) → IsCounted moves form status circuit lines
    → IsCounted moves form status circuit others
    → (plan : List ℕ) × AreCounted plan lines × AreCounted plan others
one_plan moves forms.Margin status circuit lines others (inl (none, counted))
    (inl (none', counted')) =
    (0 ∷ 0 ∷ 1 ∷ [], counted, counted')
one_plan moves forms.Margin status circuit lines others (inl (none, counted))
    (inr (some, counted')) =
    absurd (some none)
one_plan moves forms.Margin status circuit lines others (inr (some, counted))
    (inl (none, counted')) =
    absurd (some none)
one_plan moves forms.Margin status circuit lines others (inr (some, counted))
    (inr (some', counted')) =
    (plan_with moves status forms.Margin, counted, counted')
one_plan moves form status circuit lines others counted counted' =
    (plan_with moves status form, counted, counted')

-- where a command looks for a period they are counted by the plan
pub counted_looking : (moves : ℕ) (form : Form) (status : ℕ) (circuit : Circuit)
    (lines : List Words) → looks_for_period form ≡ true
    → AreCounted (plan_with moves status form) lines → IsCounted moves form status circuit lines
counted_looking moves forms.Margin status circuit lines looks counted = cc looks
counted_looking moves form status circuit lines looks counted = counted

-- the text of a command of this form for a circuit, where so many moves are given
pub record IsTextWith (moves : ℕ) (form : Form) (None : Type 0) (circuit : Circuit) (status : ℕ)
    (text : List ℕ) : Type 0 where
  pub lines : List Words
  pub each : AreLines lines
  pub some : 0 < length lines
  pub counted : IsCounted moves form status circuit lines
  pub says : SaysOfPeriods (looks_for_period form) None status
  pub spelled : text ≡ text_of lines

-- and where none are
abbrev pub IsTextOf : Form → (None : Type 0) → Circuit → (status : ℕ) → List ℕ → Type 0
IsTextOf form None circuit status text = IsTextWith 0 form None circuit status text
