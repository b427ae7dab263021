-- What the status of a call rules out, and the text that it hands over.
use Rattle.cts_c.proofs.Vocabulary.{◌≡◌, ◌≢◌, ◌↔◌, ◌⊎◌, inl, inr, ℕ, List, sym, ap, ◌∙◌, subst, arith, failure_status, IsEnding, IsFailure, IsStatus, Failure, NoMemory}
use Rattle.answer_texts.specs.PeriodTexts.{outcome_status}
use Rattle.answer_texts.specs.SynthTexts.{synthesis_status}
use Rattle.outcomes.specs.PeriodOutcomes as periods
use Rattle.outcomes.specs.ScheduleOutcomes.{period_outcome}
use Rattle.outcomes.specs.SynthesisOutcomes as syntheses
use Rattle.outcomes.specs.declared.scheduling.ScheduleOutcome.{ScheduleOutcome}
use Rattle.outcomes.specs.declared.scheduling.ScheduleOutcome.TheVariants as schedule
use Rattle.outcomes.specs.declared.synthesis.Outcome.{Outcome}
use Rattle.outcomes.specs.declared.synthesis.Outcome.TheVariants as synthesis
use Rattle.cts_c.specs.Buffers.{IsHanded, IsTooLarge}

module _ {None : Type 0} (status : ℕ) where
  -- the status is 1 exactly where the outcome is that no period will do
  pub never_scheduled : (outcome : ScheduleOutcome)
      → status ≡ outcome_status (period_outcome outcome)
      → (periods.IsNeverOutcome (period_outcome outcome) ↔ None) → (status ≡ 1) ↔ None
  never_scheduled (schedule.Found zero period shown at slacks) found never =
      (λ one. absurd (omega (arith, one, found)), λ none. absurd (never.1 none))
  never_scheduled (schedule.Never cycle) is never = (λ one. never.0 tt, λ none. is)

  pub never_built : (outcome : Outcome) → status ≡ synthesis_status outcome
      → (syntheses.IsNeverOutcome outcome ↔ None) → (status ≡ 1) ↔ None
  never_built (synthesis.Done report) done never =
      (λ one. absurd (omega (arith, one, done)), λ none. absurd (never.1 none))
  never_built (synthesis.Never cycle) is never = (λ one. never.0 tt, λ none. is)

module _ (Is : ℕ → List ℕ → Type 0) (ending : ℕ) (text : List ℕ) (is : Is ending text)
    (before now : List ℕ) (status size : ℕ) where
  -- the text that is handed over
  pub handed_text : (status ≡ ending) × IsHanded text before now size
      → (told : List ℕ) × Is status told × IsHanded told before now size
  handed_text (same, handed) = (text, subst (λ s. Is s text) (sym same) is, handed)

  -- and the one that is too large
  pub large_text : IsTooLarge text before now size
      → (told : List ℕ) × ((other : ℕ) × Is other told × IsTooLarge told before now size)
  large_text large = (text, (ending, is, large))

module _ (status : ℕ) where
  -- a call that has a text has no status of a failure
  pub has_text : IsEnding status ⊎ (status ≡ 5) → IsFailure status → ⊥
  has_text (inl (inl zero)) (inl three) = omega (arith, zero, three)
  has_text (inl (inl zero)) (inr six) = omega (arith, zero, six)
  has_text (inl (inr one)) (inl three) = omega (arith, one, three)
  has_text (inl (inr one)) (inr six) = omega (arith, one, six)
  has_text (inr five) (inl three) = omega (arith, five, three)
  has_text (inr five) (inr six) = omega (arith, five, six)

  -- but one of those that there are
  pub text_status : IsEnding status ⊎ (status ≡ 5) → IsStatus status
  text_status (inl ending) = inl ending
  text_status (inr five) = inr (inl five)

  -- nor has one that has judged a report
  pub is_judged : (status ≡ 0) ⊎ (status ≡ 7) → IsFailure status → ⊥
  is_judged (inl zero) (inl three) = omega (arith, zero, three)
  is_judged (inl zero) (inr six) = omega (arith, zero, six)
  is_judged (inr seven) (inl three) = omega (arith, seven, three)
  is_judged (inr seven) (inr six) = omega (arith, seven, six)

  module _ (failure : Failure) (value : status ≡ failure_status failure) (free : failure ≡ NoMemory)
    where
      -- want of memory has its own
      pub free_status : status ≡ 6
      free_status = value ∙ ap failure_status free

      pub not_refused : status ≢ 3
      not_refused three = omega (arith, three, free_status)
