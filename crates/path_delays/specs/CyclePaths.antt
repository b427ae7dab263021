-- The paths of constraints, one put after the other while there is room.
use Rattle.std.specs.Prelude.{◌≡◌, ◌≤◌, ◌<◌, ◌++◌, ℕ, List, [], length, Some, slice_get, if◌then◌else◌}
use Rattle.path_delays.specs.Types.{Circuit, Constraint, Tech}
use Rattle.cts_model.specs.Vocabulary.{ArePathsWithin, GivesWeight}
use Rattle.path_delays.specs.declared.walk.Walk.{Walk}
use Rattle.path_delays.specs.WalkParts.{HasReachBetween}

-- the register that launches along a constraint's paths, and the one that captures
abbrev pub pair_of : Constraint → ℕ × ℕ
pair_of constraint = if constraint.setup then (constraint.tail, constraint.head)
    else (constraint.head, constraint.tail)

-- a lane has the sums to all on the constraint's paths
abbrev pub IsReachedAlong : Circuit → Tech → Constraint → (lane : ℕ) → Walk → Type 0
IsReachedAlong circuit tech constraint lane walk =
    HasReachBetween circuit tech (pair_of constraint).0 (pair_of constraint).1 lane walk

-- and so has the lane of each of these
abbrev pub AreReachedAlong : Circuit → Tech → List Constraint → Walk → Type 0
AreReachedAlong circuit tech constraints walk = (lane : ℕ) (constraint : Constraint)
    → slice_get constraints lane ≡ Some constraint
    → IsReachedAlong circuit tech constraint lane walk

-- the path is whole where there is room for it, and else empty
pub record FitsRoom (whole : List ℕ) (room : ℕ) (path : List ℕ) : Type 0 where
  pub whole_kept : length whole ≤ room → path ≡ whole
  pub none : room < length whole → path ≡ []

-- a path that gives the constraint its weight, where there is room for it, and else none
pub record IsPathWithin (circuit : Circuit) (tech : Tech) (constraint : Constraint) (room : ℕ)
    (path : List ℕ) : Type 0 where
  pub whole : List ℕ
  pub gives : GivesWeight circuit tech constraint whole
  pub kept : FitsRoom whole room path

-- the paths of some constraints are put last, and leave so much room for those of more
pub record KeepsPaths (circuit : Circuit) (tech : Tech) (constraints : List Constraint)
    (room : ℕ) (old new : List (List ℕ)) (left : ℕ) : Type 0 where
  pub pushed : List (List ℕ)
  pub is : new ≡ old ++ pushed
  pub within : (more : List Constraint) (rest : List (List ℕ))
      → ArePathsWithin circuit tech left more rest
      → ArePathsWithin circuit tech room (constraints ++ more) (pushed ++ rest)
