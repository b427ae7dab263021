-- The text for an outcome is one that the command prints.
use Rattle.answer_texts.proofs.Vocabulary.{◌≡◌, ℕ, List, [], sym, subst, Fraction, Circuit, PeriodShow, Problem, Schedule, Tech, Topology, text_of, CornersOutcome, IsCornersOutcome, synthesis_lines, synthesis_status, IsSynthText, IsEmbedText, period_lines, outcome_status, IsPeriodText, schedule_lines, IsScheduleText, corners_lines, corners_status, IsCornersText}
use Rattle.cts_model.specs.declared.period.PeriodShow.TheVariants as shows
use Rattle.corners.specs.CornerOutcomes.{HasLowestFirst}
use Rattle.corners.specs.declared.outcome.CornersOutcome.TheVariants as common
use Rattle.outcomes.specs.declared.period.PeriodOutcome.{PeriodOutcome}
use Rattle.outcomes.specs.declared.period.PeriodOutcome.TheVariants as period
use Rattle.outcomes.specs.declared.scheduling.ScheduleOutcome.{ScheduleOutcome}
use Rattle.outcomes.specs.declared.scheduling.ScheduleOutcome.TheVariants as schedules
use Rattle.outcomes.specs.PeriodOutcomes as periods
use Rattle.outcomes.specs.PeriodOutcomes.{IsPeriodOutcome}
use Rattle.outcomes.specs.ScheduleOutcomes.{period_outcome, IsScheduleOutcome}
use Rattle.outcomes.specs.ShownCycles.{ShowsFromLowest}
use Rattle.outcomes.specs.declared.synthesis.Outcome.{Outcome}
use Rattle.outcomes.specs.declared.synthesis.Outcome.TheVariants.{Done, Never}
use Rattle.outcomes.specs.SynthesisOutcomes.{IsOutcome, IsOutcomeWith, IsShownOutcome, BeginsLowest}
use Rattle.answer_texts.proofs.TreeTexts.{synthesis_spelled, embedding_spelled}

-- an outcome is one by its own topology
pub made_with : (problem : Problem) (outcome : Outcome) → IsOutcome problem outcome
    → (topology : Topology) × IsOutcomeWith problem topology outcome
made_with problem (Done report) made = (report.topology, made.made)
made_with problem (Never cycle) forbids = (record { merges = [] }, forbids)

module _ (problem : Problem) where
  -- the text of `synth`
  pub synth_says : (outcome : Outcome) → IsOutcome problem outcome
      → IsShownOutcome problem outcome → BeginsLowest outcome
      → (status : ℕ) (text : List ℕ) → status ≡ synthesis_status outcome
      → text ≡ text_of (synthesis_lines problem.circuit outcome) → IsSynthText problem status text
  synth_says (Done report) made shown lowest status text done spelled =
      subst (λ s. IsSynthText problem s text) (sym done)
      (synthesis_spelled problem report lowest shown made text spelled)
  synth_says (Never cycle) forbids none lowest status text never spelled =
      subst (λ s. IsSynthText problem s text) (sym never)
      (record { cycle = cycle; forbids = forbids; lowest = lowest; spelled = spelled })

  -- the text of `embed`
  pub embed_says : (topology : Topology) (outcome : Outcome)
      → IsOutcomeWith problem topology outcome → IsShownOutcome problem outcome
      → BeginsLowest outcome → (status : ℕ) (text : List ℕ) → status ≡ synthesis_status outcome
      → text ≡ text_of (synthesis_lines problem.circuit outcome)
      → IsEmbedText problem topology status text
  embed_says topology (Done report) made shown lowest status text done spelled =
      subst (λ s. IsEmbedText problem topology s text) (sym done)
      (embedding_spelled problem report lowest shown topology made text spelled)
  embed_says topology (Never cycle) forbids none lowest status text never spelled =
      subst (λ s. IsEmbedText problem topology s text) (sym never)
      (record { cycle = cycle; forbids = forbids; lowest = lowest; spelled = spelled })

module _ (circuit : Circuit) (tech : Tech) where
  -- the text of `period`
  pub period_says : (outcome : PeriodOutcome) → IsPeriodOutcome circuit tech outcome
      → periods.BeginsLowest outcome → (status : ℕ) (text : List ℕ) → status ≡ outcome_status outcome
      → text ≡ text_of (period_lines circuit outcome) → IsPeriodText circuit tech status text
  period_says (period.Found zero period shown) found lowest status text done spelled =
      subst (λ s. IsPeriodText circuit tech s text) (sym done) (record {
        zero = zero;
        period = period;
        shown = shown;
        found = found;
        lowest = lowest;
        spelled = spelled;
      })
  period_says (period.Never cycle) forbids lowest status text never spelled =
      subst (λ s. IsPeriodText circuit tech s text) (sym never)
      (record { cycle = cycle; forbids = forbids; lowest = lowest; spelled = spelled })

  -- the text of `schedule`
  pub schedule_says : (outcome : ScheduleOutcome) → IsScheduleOutcome circuit tech outcome
      → periods.BeginsLowest (period_outcome outcome) → (status : ℕ) (text : List ℕ)
      → status ≡ outcome_status (period_outcome outcome)
      → text ≡ text_of (schedule_lines circuit outcome) → IsScheduleText circuit tech status text
  schedule_says (schedules.Found zero period shown schedule slacks) found lowest status text done
      spelled = subst (λ s. IsScheduleText circuit tech s text) (sym done) (record {
        zero = zero;
        period = period;
        shown = shown;
        schedule = schedule;
        slacks = slacks;
        found = found;
        lowest = lowest;
        spelled = spelled;
      })
  schedule_says (schedules.Never cycle) forbids lowest status text never spelled =
      subst (λ s. IsScheduleText circuit tech s text) (sym never)
      (record { cycle = cycle; forbids = forbids; lowest = lowest; spelled = spelled })

-- the cycle that shows the period of all corners, if one does, begins at its lowest register
shows_from_lowest : (period : Fraction) (shown : PeriodShow) (corners : List ℕ)
    (schedule : Schedule) → HasLowestFirst (common.Found period shown corners schedule)
    → ShowsFromLowest shown
shows_from_lowest period (shows.Cycle cycle) corners schedule lowest = lowest
shows_from_lowest period shows.Floor corners schedule lowest = tt

-- the text of `corners`
pub corners_says : (circuit : Circuit) (techs : List Tech) (outcome : CornersOutcome)
    → IsCornersOutcome circuit techs outcome → HasLowestFirst outcome
    → (status : ℕ) (text : List ℕ) → status ≡ corners_status outcome
    → text ≡ text_of (corners_lines circuit outcome) → IsCornersText circuit techs status text
corners_says circuit techs (common.Found period shown corners schedule) found lowest status text
    done spelled = subst (λ s. IsCornersText circuit techs s text) (sym done) (record {
      period = period;
      shown = shown;
      corners = corners;
      schedule = schedule;
      found = found;
      lowest = shows_from_lowest period shown corners schedule lowest;
      spelled = spelled;
    })
corners_says circuit techs (common.Never cycle corners) forbids lowest status text never spelled =
    subst (λ s. IsCornersText circuit techs s text) (sym never) (record {
      cycle = cycle;
      corners = corners;
      forbids = forbids;
      lowest = lowest;
      spelled = spelled;
    })
