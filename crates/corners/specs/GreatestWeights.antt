-- The corner that asks for the most at a place of the lists of constraints.
use Rattle.std.specs.Prelude.{◌≡◌, ◌<◌, ℕ, ℤ, ◌≤ℤ◌, ◌<ℤ◌, List, length}
use Rattle.std.specs.List.{slice_index_or}
use Rattle.corners.specs.Types.{Constraint}
use Rattle.corners.specs.CornerLists.{constraint_at, list_of}

-- the weight at a place of a corner's list
abbrev pub weight_at : List (List Constraint) → (corner place : ℕ) → ℤ
weight_at lists corner place = (constraint_at (list_of lists corner) place).weight

-- at the place no corner has a greater weight, and no earlier one as great a weight
pub record IsGreatestAt (lists : List (List Constraint)) (place corner : ℕ) : Type 0 where
  pub in_range : corner < length lists
  pub greatest : (other : ℕ) → other < length lists
      → weight_at lists other place ≤ℤ weight_at lists corner place
  pub first : (other : ℕ) → other < corner
      → weight_at lists other place <ℤ weight_at lists corner place

-- the corner named at the place is the first with the greatest weight, and the constraint is its
pub record IsCombinedAt (lists : List (List Constraint)) (constraints : List Constraint)
    (corners : List ℕ) (place : ℕ) : Type 0 where
  pub named : IsGreatestAt lists place (slice_index_or corners place 0)
  pub constraint : constraint_at constraints place
      ≡ constraint_at (list_of lists (slice_index_or corners place 0)) place
