-- The outcome of a circuit in several corners: the least period and the least arrivals that serve
-- all of them, or what forbids every period. Fishburn, "Clock Skew Optimization", 1990.
use Rattle.std.specs.Prelude.{◌^◌, ℕ, List, All}
use Rattle.cts_base.specs.declared.fraction.Fraction.{Fraction}
use Rattle.corners.specs.Types.{Circuit, PeriodShow, Cycle, Floor, Schedule, Tech}
use Rattle.cts_model.specs.Vocabulary.{IsBelow, IsSmallPeriod}
use Rattle.critical_cycle.specs.CyclePlaces.{IsFromLowest}
use Rattle.corners.specs.declared.outcome.CornersOutcome.{CornersOutcome}
use Rattle.corners.specs.declared.outcome.CornersOutcome.TheVariants.{Found, Never}
use Rattle.corners.specs.CommonPeriods.{IsLeastCommonPeriod, IsLeastCommonSchedule}
use Rattle.corners.specs.CornerCycles.{IsCommonShow, IsCommonForbidding}

-- the least period of all corners, what shows it, and the least schedule at it
pub record IsCommonTiming (circuit : Circuit) (techs : List Tech) (fraction : Fraction)
    (show : PeriodShow) (corners : List ℕ) (schedule : Schedule) : Type 0 where
  pub least : IsLeastCommonPeriod circuit techs fraction
  pub shown : IsCommonShow circuit techs fraction show corners
  pub arrivals : IsLeastCommonSchedule circuit techs fraction schedule

-- that, or a cycle that forbids every period
abbrev pub IsCornersOutcome : Circuit → List Tech → CornersOutcome → Type 0
IsCornersOutcome circuit techs (Found period shown corner schedule) =
    IsCommonTiming circuit techs period shown corner schedule
IsCornersOutcome circuit techs (Never cycle corner) =
    IsCommonForbidding circuit techs cycle corner

-- the outcome is that no period serves all corners
abbrev pub IsNeverCommon : CornersOutcome → Type 0
IsNeverCommon (Found period shown corner schedule) = ⊥
IsNeverCommon (Never cycle corner) = Unit {0}

-- the cycle that is shown, if any, begins at its lowest register
abbrev pub HasLowestFirst : CornersOutcome → Type 0
HasLowestFirst (Found period (Cycle cycle) corner schedule) = IsFromLowest cycle
HasLowestFirst (Found period Floor corner schedule) = Unit {0}
HasLowestFirst (Never cycle corner) = IsFromLowest cycle

-- a period and arrivals that are small
pub record AreSmallCommonTimes (fraction : Fraction) (schedule : Schedule) : Type 0 where
  pub period : IsSmallPeriod fraction
  pub arrivals : All (IsBelow (10 ^ 19)) schedule.at

-- the times of the outcome, if there are any, are small
abbrev pub HasSmallCommonTimes : CornersOutcome → Type 0
HasSmallCommonTimes (Found period shown corner schedule) = AreSmallCommonTimes period schedule
HasSmallCommonTimes (Never cycle corner) = Unit {0}
