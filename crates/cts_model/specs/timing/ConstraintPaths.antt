-- The paths that give constraints their weights. Fishburn, "Clock Skew Optimization", 1990.
use Rattle.std.specs.Prelude.{◌≡◌, ◌-◌, ℕ, ◌+ℤ◌, ◌-ℤ◌, nat_le, MatchBool, List, [], ◌∷◌, length}
use Rattle.cts_model.specs.Types.{Circuit, Constraint, PeriodShow, Cycle, Floor, Tech}
use Rattle.cts_model.specs.timing.Delays.{least_delay, greatest_delay}
use Rattle.cts_model.specs.netlist.Paths.{IsPath}

-- a path along which a setup constraint leads, and against which a hold constraint does, with the
-- constraint's weight
abbrev pub GivesWeight : Circuit → Tech → Constraint → (path : List ℕ) → Type 0
GivesWeight circuit tech constraint path = MatchBool constraint.setup
    (IsPath circuit constraint.tail constraint.head path
    × (greatest_delay circuit tech path +ℤ tech.setup ≡ constraint.weight))
    (IsPath circuit constraint.head constraint.tail path
    × (tech.hold -ℤ least_delay circuit tech path ≡ constraint.weight))

-- for each constraint a path that gives its weight, where so many signals have room for it beside
-- those before it, and else none
abbrev pub ArePathsWithin : Circuit → Tech → (room : ℕ) → List Constraint → List (List ℕ) → Type 0
ArePathsWithin circuit tech room [] [] = Unit {0}
ArePathsWithin circuit tech room [] (path ∷ paths) = ⊥
ArePathsWithin circuit tech room (constraint ∷ cycle) [] = ⊥
ArePathsWithin circuit tech room (constraint ∷ cycle) (path ∷ paths) = (whole : List ℕ)
    × GivesWeight circuit tech constraint whole
    × MatchBool (nat_le (length whole) room)
    ((path ≡ whole) × ArePathsWithin circuit tech (room - length whole) cycle paths)
    ((path ≡ []) × ArePathsWithin circuit tech room cycle paths)

-- the paths of what shows a period, of 4,096 signals at most
abbrev pub ArePathsOf : Circuit → Tech → PeriodShow → List (List ℕ) → Type 0
ArePathsOf circuit tech (Cycle cycle) paths = ArePathsWithin circuit tech 4096 cycle paths
ArePathsOf circuit tech Floor paths = paths ≡ []
