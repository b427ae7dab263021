-- What holds of the constraints that show a period.
use Rattle.std.specs.Prelude.{All}
use Rattle.cts_engine.specs.Types.{Constraint, PeriodShow, Cycle, Floor}

-- the property holds of each constraint that shows the period
abbrev pub IsShownBy : (Constraint → Type 0) → PeriodShow → Type 0
IsShownBy Property (Cycle cycle) = All Property cycle
IsShownBy Property Floor = Unit {0}
