-- What the command `margin` prints: the greatest margin at a given period, what shows it, and the
-- least schedule that spares it. Fishburn, "Clock Skew Optimization", 1990.
use Rattle.std.specs.Prelude.{◌≡◌, ℕ, List, [], ◌∷◌, ◌++◌, length, codes}
use Rattle.cts_base.specs.declared.fraction.Fraction.{Fraction}
use Rattle.cts_base.specs.Fractions.{fraction_text}
use Rattle.answer_texts.specs.Types.{Circuit, Tech}
use Rattle.cts_model.specs.Vocabulary.{Words, text_of, period_line, cycle_lines}
use Rattle.outcomes.specs.declared.margin.MarginOutcome.{MarginOutcome}
use Rattle.outcomes.specs.declared.margin.MarginOutcome.TheVariants.{Found, Unbounded}
use Rattle.outcomes.specs.CircuitMargins.{IsMarginOutcome}
use Rattle.answer_texts.specs.ArrivalTexts.{arrival_lines, all_at_zero}

-- the greatest margin in ticks, a fraction in lowest terms
abbrev pub margin_line : Fraction → Words
margin_line value = codes "margin" ∷ fraction_text value.num value.den ∷ []

-- the lines for an outcome, and those with the period before them
abbrev pub spared_lines : Circuit → MarginOutcome → List Words
spared_lines circuit (Found value cycle schedule) =
    margin_line value ∷ (cycle_lines circuit cycle ++ arrival_lines circuit schedule)
spared_lines circuit Unbounded =
    (codes "margin" ∷ codes "none" ∷ [])
    ∷ arrival_lines circuit (all_at_zero (length circuit.registers))

abbrev pub margin_lines : Circuit → (period : Fraction) → MarginOutcome → List Words
margin_lines circuit period outcome = period_line period ∷ spared_lines circuit outcome

-- the bytes are the text for the greatest margin of this circuit at the period that the word spells
pub record IsMarginText (circuit : Circuit) (tech : Tech) (word text : List ℕ) : Type 0 where
  pub period : Fraction
  pub given : word ≡ fraction_text period.num period.den
  pub outcome : MarginOutcome
  pub greatest : IsMarginOutcome circuit tech period outcome
  pub spelled : text ≡ text_of (margin_lines circuit period outcome)
