-- Cycles whose constraints are each of some corner, and what they show. Fishburn, "Clock Skew
-- Optimization", 1990. Times are in ticks.
use Rattle.std.specs.Prelude.{◌≡◌, ◌<◌, ℕ, pos, ◌*ℤ◌, ◌≤ℤ◌, ◌<ℤ◌, List, [], length, All, Any, IsSomeAnd, nat_abs, slice_get, slice_index_or}
use Rattle.cts_base.specs.declared.fraction.Fraction.{Fraction}
use Rattle.corners.specs.Types.{Circuit, Constraint, PeriodShow, Cycle, Floor, Tech}
use Rattle.cts_model.specs.Vocabulary.{IsConstraintOf, ShowsPeriod, ForbidsPeriods}
use Rattle.corners.specs.CornerLists.{AreAlike, constraint_at}

-- the constraint is one of the circuit by the table of the corner
abbrev pub IsConstraintIn : Circuit → List Tech → (corner : ℕ) → Constraint → Type 0
IsConstraintIn circuit techs corner constraint =
    IsSomeAnd (slice_get techs corner) (λ tech. IsConstraintOf circuit tech constraint)

-- it is, none of a corner between the same registers has a greater weight, and none of an earlier
-- corner as great a weight
pub record IsOfCorner (circuit : Circuit) (techs : List Tech) (corner : ℕ)
    (constraint : Constraint) : Type 0 where
  pub here : IsConstraintIn circuit techs corner constraint
  pub greatest : (other : ℕ) (rival : Constraint) → AreAlike constraint rival
      → IsConstraintIn circuit techs other rival → rival.weight ≤ℤ constraint.weight
  pub first : (other : ℕ) (rival : Constraint) → other < corner → AreAlike constraint rival
      → IsConstraintIn circuit techs other rival → rival.weight <ℤ constraint.weight

-- each constraint has its corner beside it
pub record AreOfCorners (circuit : Circuit) (techs : List Tech) (constraints : List Constraint)
    (corners : List ℕ) : Type 0 where
  pub named : length corners ≡ length constraints
  pub each : (place : ℕ) → place < length constraints
      → IsOfCorner circuit techs (slice_index_or corners place 0) (constraint_at constraints place)

-- the period is above each floor, and the constraints of corners round this cycle show it
pub record IsCommonCritical (circuit : Circuit) (techs : List Tech) (period : Fraction)
    (cycle : List Constraint) (corners : List ℕ) : Type 0 where
  pub of_corners : AreOfCorners circuit techs cycle corners
  pub above_floors : All (λ tech. (tech.floor *ℤ period.den) <ℤ period.num) techs
  pub shows : ShowsPeriod cycle period.num (nat_abs period.den)

-- the period is the greatest floor, and no constraint is named
pub record IsGreatestFloor (techs : List Tech) (period : Fraction)
    (corners : List ℕ) : Type 0 where
  pub whole : period.den ≡ pos 1
  pub a_floor : Any (λ tech. tech.floor ≡ period.num) techs
  pub greatest : All (λ tech. tech.floor ≤ℤ period.num) techs
  pub none : corners ≡ []

-- what shows that no period is less: a critical cycle, or exactly at the greatest floor that floor
abbrev pub IsCommonShow : Circuit → List Tech → Fraction → PeriodShow → List ℕ → Type 0
IsCommonShow circuit techs period (Cycle cycle) corners =
    IsCommonCritical circuit techs period cycle corners
IsCommonShow circuit techs period Floor corners = IsGreatestFloor techs period corners

-- the constraints of corners round this cycle forbid every period
pub record IsCommonForbidding (circuit : Circuit) (techs : List Tech) (cycle : List Constraint)
    (corners : List ℕ) : Type 0 where
  pub of_corners : AreOfCorners circuit techs cycle corners
  pub forbids : ForbidsPeriods cycle
