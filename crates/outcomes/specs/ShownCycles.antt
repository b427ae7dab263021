-- Where the cycle that shows a period begins.
use Rattle.outcomes.specs.Types.{PeriodShow, Cycle, Floor}
use Rattle.critical_cycle.specs.CyclePlaces.{IsFromLowest}

-- the cycle that shows a period, if one does, begins at its lowest register
abbrev pub ShowsFromLowest : PeriodShow → Type 0
ShowsFromLowest (Cycle cycle) = IsFromLowest cycle
ShowsFromLowest Floor = Unit {0}
