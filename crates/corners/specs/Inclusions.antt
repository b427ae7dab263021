-- How the constraint of a further corner is included in the combined list of those before it.
use Rattle.std.specs.Prelude.{◌≡◌, ◌⊎◌, ℕ, ◌≤ℤ◌, ◌<ℤ◌, slice_set}
use Rattle.corners.specs.Types.{Constraint}
use Rattle.corners.specs.declared.fold.Combined.{Combined}
use Rattle.corners.specs.CornerLists.{constraint_at}

-- what stands at the place asks for as much, and all stays
pub record IsKept (next : Constraint) (place : ℕ) (old new : Combined) : Type 0 where
  pub enough : next.weight ≤ℤ (constraint_at old.constraints place).weight
  pub constraints : new.constraints ≡ old.constraints
  pub corners : new.corner ≡ old.corner

-- the next one asks for more, and stands there with its corner
pub record IsTaken (next : Constraint) (number place : ℕ) (old new : Combined) : Type 0 where
  pub more : (constraint_at old.constraints place).weight <ℤ next.weight
  pub constraints : new.constraints ≡ slice_set old.constraints place next
  pub corners : new.corner ≡ slice_set old.corner place number

-- the one or the other
abbrev pub IsIncludedAt : Constraint → (number place : ℕ) → (old new : Combined) → Type 0
IsIncludedAt next number place old new =
    IsKept next place old new ⊎ IsTaken next number place old new
