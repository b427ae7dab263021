-- The outcome of a circuit with its schedule: the least period, the least arrivals that meet it and
-- what they spare. Fishburn, "Clock Skew Optimization", 1990.
use Rattle.std.specs.Prelude.{◌^◌, List, All}
use Rattle.cts_base.specs.declared.fraction.Fraction.{Fraction}
use Rattle.outcomes.specs.Types.{Circuit, Tech, ZeroSkew, PeriodShow, Schedule, Slack}
use Rattle.cts_model.specs.Vocabulary.{IsForbidding, HasSmallDelays, IsBelow, IsLeastSchedule, IsSmallPeriod, AreSlacks}
use Rattle.outcomes.specs.declared.period.PeriodOutcome.{PeriodOutcome}
use Rattle.outcomes.specs.declared.period.PeriodOutcome.TheVariants as periods
use Rattle.outcomes.specs.declared.scheduling.ScheduleOutcome.{ScheduleOutcome}
use Rattle.outcomes.specs.declared.scheduling.ScheduleOutcome.TheVariants.{Found, Never}
use Rattle.outcomes.specs.PeriodOutcomes.{IsFound}

-- what it says of the period
abbrev pub period_outcome : ScheduleOutcome → PeriodOutcome
period_outcome (Found zero period shown schedule slacks) = periods.Found zero period shown
period_outcome (Never cycle) = periods.Never cycle

-- the least period, the least schedule at it, and what that spares
pub record IsScheduled (circuit : Circuit) (tech : Tech) (zero_skew : ZeroSkew) (period : Fraction)
    (show : PeriodShow) (schedule : Schedule) (slacks : List Slack) : Type 0 where
  pub found : IsFound circuit tech zero_skew period show
  pub least : IsLeastSchedule circuit tech period schedule
  pub spared : AreSlacks circuit tech period schedule slacks

-- the least period and its schedule, or a cycle that forbids every period
abbrev pub IsScheduleOutcome : Circuit → Tech → ScheduleOutcome → Type 0
IsScheduleOutcome circuit tech (Found zero period shown schedule slacks) =
    IsScheduled circuit tech zero period shown schedule slacks
IsScheduleOutcome circuit tech (Never cycle) = IsForbidding circuit tech cycle

-- delays, a period and arrivals that are small
pub record AreSmallTimes (zero_skew : ZeroSkew) (fraction : Fraction)
    (schedule : Schedule) : Type 0 where
  pub zero : HasSmallDelays zero_skew
  pub period : IsSmallPeriod fraction
  pub arrivals : All (IsBelow (10 ^ 19)) schedule.at

-- the times of the outcome, if there are any, are small
abbrev pub HasSmallTimes : ScheduleOutcome → Type 0
HasSmallTimes (Found zero period shown schedule slacks) = AreSmallTimes zero period schedule
HasSmallTimes (Never cycle) = Unit {0}
