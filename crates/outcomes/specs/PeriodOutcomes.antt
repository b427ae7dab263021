-- The outcome of a circuit: its least period and what shows it, or what forbids every period.
-- Fishburn, "Clock Skew Optimization", 1990.
use Rattle.cts_base.specs.declared.fraction.Fraction.{Fraction}
use Rattle.outcomes.specs.Types.{Circuit, Tech, ZeroSkew, PeriodShow}
use Rattle.cts_model.specs.Vocabulary.{IsZeroSkew, HasSmallDelays, IsLeastFraction, IsPeriodShow, IsForbidding}
use Rattle.critical_cycle.specs.CyclePlaces.{IsFromLowest}
use Rattle.outcomes.specs.declared.period.PeriodOutcome.{PeriodOutcome}
use Rattle.outcomes.specs.declared.period.PeriodOutcome.TheVariants.{Found, Never}
use Rattle.outcomes.specs.ShownCycles.{ShowsFromLowest}

-- the least period with and without skew, and what shows the one with it
pub record IsFound (circuit : Circuit) (tech : Tech) (zero_skew : ZeroSkew) (fraction : Fraction)
    (show : PeriodShow) : Type 0 where
  pub zero : IsZeroSkew circuit tech zero_skew
  pub least : IsLeastFraction circuit tech fraction
  pub shown : IsPeriodShow circuit tech fraction show

-- the least period, or a cycle that forbids every period
abbrev pub IsPeriodOutcome : Circuit → Tech → PeriodOutcome → Type 0
IsPeriodOutcome circuit tech (Found zero period shown) = IsFound circuit tech zero period shown
IsPeriodOutcome circuit tech (Never cycle) = IsForbidding circuit tech cycle

-- the outcome is that no period will do
abbrev pub IsNeverOutcome : PeriodOutcome → Type 0
IsNeverOutcome (Found zero period shown) = ⊥
IsNeverOutcome (Never cycle) = Unit {0}

-- the pair that the least period without skew names, if any, has small delays
abbrev pub HasSmallZero : PeriodOutcome → Type 0
HasSmallZero (Found zero period shown) = HasSmallDelays zero
HasSmallZero (Never cycle) = Unit {0}

-- the cycle that is shown, if any, begins at its lowest register
abbrev pub BeginsLowest : PeriodOutcome → Type 0
BeginsLowest (Found zero period shown) = ShowsFromLowest shown
BeginsLowest (Never cycle) = IsFromLowest cycle
