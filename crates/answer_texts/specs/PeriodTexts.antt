-- What the command `period` prints: the least period and what shows it, or what forbids all.
-- Fishburn, "Clock Skew Optimization", 1990.
use Rattle.std.specs.Prelude.{◌≡◌, ℕ, List, [], ◌∷◌, codes}
use Rattle.std.specs.Fmt.{signed_decimal}
use Rattle.cts_base.specs.declared.fraction.Fraction.{Fraction}
use Rattle.answer_texts.specs.Types.{Circuit, PeriodShow, Tech, ZeroSkew}
use Rattle.cts_model.specs.Vocabulary.{Words, text_of, period_line, show_lines}
use Rattle.cts_model.specs.declared.timing.ZeroSkew.TheVariants as zeros
use Rattle.outcomes.specs.declared.period.PeriodOutcome.{PeriodOutcome}
use Rattle.outcomes.specs.declared.period.PeriodOutcome.TheVariants.{Found, Never}
use Rattle.outcomes.specs.PeriodOutcomes.{IsFound}
use Rattle.outcomes.specs.ShownCycles.{ShowsFromLowest}
use Rattle.answer_texts.specs.NeverTexts.{never_lines, IsNeverText, IsFoundOrNever}

-- the least period at equal arrivals, in ticks
abbrev pub zero_line : ZeroSkew → Words
zero_line (zeros.Fails pair) = codes "zero" ∷ codes "none" ∷ []
zero_line (zeros.Floor value) = codes "zero" ∷ signed_decimal value ∷ []
zero_line (zeros.Setup value pair) = codes "zero" ∷ signed_decimal value ∷ []

-- the least period, with and without skew, and what shows the one with it
abbrev pub found_lines : Circuit → ZeroSkew → Fraction → PeriodShow → List Words
found_lines circuit zero period shown =
    period_line period ∷ zero_line zero ∷ show_lines circuit shown

-- the lines for an outcome
abbrev pub period_lines : Circuit → PeriodOutcome → List Words
period_lines circuit (Found zero period shown) = found_lines circuit zero period shown
period_lines circuit (Never cycle) = never_lines circuit cycle

-- the exit status for an outcome
abbrev pub outcome_status : PeriodOutcome → ℕ
outcome_status (Found zero period shown) = 0
outcome_status (Never cycle) = 1

-- the bytes say what was found; the cycle that shows the period begins at its lowest register
pub record IsLeastText (circuit : Circuit) (tech : Tech) (text : List ℕ) : Type 0 where
  pub zero : ZeroSkew
  pub period : Fraction
  pub shown : PeriodShow
  pub found : IsFound circuit tech zero period shown
  pub lowest : ShowsFromLowest shown
  pub spelled : text ≡ text_of (found_lines circuit zero period shown)

-- the bytes are a text for the least period of this circuit, with its status
abbrev pub IsPeriodText : Circuit → Tech → (status : ℕ) → List ℕ → Type 0
IsPeriodText circuit tech =
    IsFoundOrNever (IsLeastText circuit tech) (IsNeverText circuit tech)
