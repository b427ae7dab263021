-- What a sweep over constraints makes of the values of registers. Each register has the number of
-- the sweep in which it changed last, from 1 on, and 0 where it didn't change. Cherkassky and
-- Goldberg, "Negative-cycle detection algorithms", 1999.
use Rattle.std.specs.Prelude.{◌≡◌, ◌<◌, ◌≤◌, ◌+◌, ⊤, ℕ, ℤ, List, length, slice_get, Option, Some, None, MatchOption}
use Rattle.cts_model.specs.declared.constraint.Constraint.{Constraint}
use Rattle.relaxation.specs.declared.gains.Gains.{Gains}
use Rattle.relaxation.specs.declared.relaxation.Relaxation.{Relaxation}
use Rattle.relaxation.specs.Parents.{parent_of, AreParents}
use Rattle.relaxation.specs.Relaxing.{GivesMore}
use Rattle.relaxation.specs.Rises.{AreRaisedBy}

-- within a sweep that has seen some places: where a constraint gives more, its tail has changed
-- since it was seen, and above a register that changed is one that changed a sweep before or later
pub record IsSweeping (constraints : List Constraint) (gains : Gains) (sweep : ℕ)
    (Seen : ℕ → Type 0) (changed : Option ℕ) (values : List ℤ)
    (parents : List ℕ) : Type 0 where
  pub are_parents : AreParents constraints gains values parents
  pub last : ℕ → ℕ
  pub latest : (register : ℕ) → last register ≤ sweep
  pub changes : MatchOption changed ((register : ℕ) → last register < sweep)
      (λ register. (register < length values) × (last register ≡ sweep))
  pub waits : (place : ℕ) (constraint : Constraint)
      → slice_get constraints place ≡ Some constraint
      → GivesMore gains values constraint → sweep ≤ last constraint.tail + 1
  pub seen : (place : ℕ) (constraint : Constraint) → Seen place
      → slice_get constraints place ≡ Some constraint
      → GivesMore gains values constraint → sweep ≤ last constraint.tail
  pub above : (register : ℕ) → 0 < last register → (parent : Constraint)
      × (parent_of constraints parents register ≡ Some parent)
      × (last register ≤ last parent.tail + 1)

-- before a sweep
abbrev pub IsReady : List Constraint → Gains → ℕ → (values : List ℤ) (parents : List ℕ) → Type 0
IsReady constraints gains sweep values parents =
    IsSweeping constraints gains sweep (λ place. ⊥) None values parents

-- after it
abbrev pub IsSwept : List Constraint → Gains → ℕ → Option ℕ → (values : List ℤ)
    (parents : List ℕ) → Type 0
IsSwept constraints gains sweep changed values parents =
    IsSweeping constraints gains sweep (λ place. ⊤) changed values parents

-- what becomes of parents, which a relaxation may keep or not, within a sweep: those that it keeps
-- become those that it keeps then
pub record LeavesParents (constraints : List Constraint) (gains : Gains) (sweep : ℕ)
    (Seen : ℕ → Type 0) (changed : Option ℕ) (old new : Relaxation) (parents : List ℕ) : Type 0
  where
    pub later : List ℕ
    pub long : length later ≡ length parents
    pub kept : parents ≡ old.parents.items → later ≡ new.parents.items
    pub sweeping : IsSweeping constraints gains sweep Seen changed new.values.items later

-- what a sweep leaves: the values are raised at most once a constraint
pub record IsSweep (constraints : List Constraint) (gains : Gains) (old : Relaxation)
    (changed : Option ℕ) (new : Relaxation) : Type 0 where
  pub constraints_kept : new.constraints.now ≡ old.constraints.now
  pub parents : length new.parents.items ≡ length old.parents.items
  pub raised : AreRaisedBy constraints gains (length constraints) old.values.items new.values.items
  pub swept : (sweep : ℕ) (parents : List ℕ) → length parents ≡ length old.values.items
      → IsReady constraints gains sweep old.values.items parents
      → LeavesParents constraints gains sweep (λ place. ⊤) changed old new parents
