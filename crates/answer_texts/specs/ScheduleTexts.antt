-- What the command `schedule` prints: what `period` prints, and after it when the clock is to
-- reach each register and what the register has to spare. Fishburn, "Clock Skew Optimization",
-- 1990.
use Rattle.std.specs.Prelude.{◌≡◌, ◌^◌, ℕ, pos, ◌≤ℤ◌, List, ◌∷◌, ◌++◌, All, length, None, slice_index_or, codes}
use Rattle.cts_base.specs.declared.fraction.Fraction.{Fraction}
use Rattle.answer_texts.specs.Types.{Circuit, PeriodShow, Schedule, Slack, Tech, ZeroSkew}
use Rattle.cts_model.specs.Vocabulary.{IsBelow, lines_below, Words, text_of, count_line, register_line, arrival_of}
use Rattle.outcomes.specs.declared.scheduling.ScheduleOutcome.{ScheduleOutcome}
use Rattle.outcomes.specs.declared.scheduling.ScheduleOutcome.TheVariants.{Found, Never}
use Rattle.outcomes.specs.ScheduleOutcomes.{IsScheduled}
use Rattle.outcomes.specs.ShownCycles.{ShowsFromLowest}
use Rattle.answer_texts.specs.NeverTexts.{never_lines, IsNeverText, IsFoundOrNever}
use Rattle.answer_texts.specs.PeriodTexts.{found_lines}

-- arrivals below 10^19 over a denominator from 1 to 4,097
pub record IsSmallSchedule (schedule : Schedule) : Type 0 where
  pub some_den : pos 1 ≤ℤ schedule.den
  pub low_den : schedule.den ≤ℤ pos 4097
  pub arrivals : All (IsBelow (10 ^ 19)) schedule.at

-- the register's line, by its number
abbrev pub scheduled_line_at : Circuit → Schedule → List Slack → ℕ → Words
scheduled_line_at circuit schedule slacks register = register_line circuit schedule.den register
    (arrival_of schedule.at register)
    (slice_index_or slacks register (record { setup = None; hold = None }))

-- how many registers there are, and each of them in order
abbrev pub register_lines : Circuit → Schedule → List Slack → List Words
register_lines circuit schedule slacks = count_line (codes "registers") (length schedule.at)
    ∷ lines_below (scheduled_line_at circuit schedule slacks) (length schedule.at)

-- the lines for an outcome
abbrev pub schedule_lines : Circuit → ScheduleOutcome → List Words
schedule_lines circuit (Found zero period shown schedule slacks) =
    found_lines circuit zero period shown ++ register_lines circuit schedule slacks
schedule_lines circuit (Never cycle) = never_lines circuit cycle

-- the bytes say what was found; the cycle that shows the period begins at its lowest register
pub record IsScheduledText (circuit : Circuit) (tech : Tech) (text : List ℕ) : Type 0 where
  pub zero : ZeroSkew
  pub period : Fraction
  pub shown : PeriodShow
  pub schedule : Schedule
  pub slacks : List Slack
  pub found : IsScheduled circuit tech zero period shown schedule slacks
  pub lowest : ShowsFromLowest shown
  pub spelled : text
      ≡ text_of (found_lines circuit zero period shown ++ register_lines circuit schedule slacks)

-- the bytes are a text for the least schedule of this circuit at its least period, with its status
abbrev pub IsScheduleText : Circuit → Tech → (status : ℕ) → List ℕ → Type 0
IsScheduleText circuit tech =
    IsFoundOrNever (IsScheduledText circuit tech) (IsNeverText circuit tech)
