-- The constraints of one circuit by the delay tables of several corners: the same registers at each
-- place, and other weights. Fishburn, "Clock Skew Optimization", 1990.
use Rattle.std.specs.Prelude.{◌≡◌, ◌<◌, ◌≤◌, ℕ, pos, false, List, [], length, All}
use Rattle.std.specs.List.{slice_index_or}
use Rattle.corners.specs.Types.{Constraint}

-- what is read past the end of a list
abbrev pub no_constraint : Constraint
no_constraint = record { setup = false; tail = 0; head = 0; weight = pos 0 }

-- the constraint at a place
abbrev pub constraint_at : List Constraint → ℕ → Constraint
constraint_at constraints place = slice_index_or constraints place no_constraint

-- the list of a corner
abbrev pub list_of : List (List Constraint) → ℕ → List Constraint
list_of lists corner = slice_index_or lists corner []

-- the two differ in their weights alone, if at all
pub record AreAlike (one other : Constraint) : Type 0 where
  pub setup : one.setup ≡ other.setup
  pub tail : one.tail ≡ other.tail
  pub head : one.head ≡ other.head

-- the two lists have one length, and their constraints at each place are alike
pub record AreParallel (one other : List Constraint) : Type 0 where
  pub lengths : length one ≡ length other
  pub alike : (place : ℕ) → place < length one
      → AreAlike (constraint_at one place) (constraint_at other place)

-- the lists of 1 to 16 corners, any two of them parallel
pub record AreCorners (lists : List (List Constraint)) : Type 0 where
  pub some : 1 ≤ length lists
  pub few : length lists ≤ 16
  pub parallel : All (λ one. All (AreParallel one) lists) lists
