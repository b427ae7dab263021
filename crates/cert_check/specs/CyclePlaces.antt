-- Where the constraints of a cycle begin.
use Rattle.std.specs.Prelude.{◌≡◌, ◌<◌, ℕ, Bool, true, false, List, Some, slice_get, slice_index_or}
use Rattle.cts_model.specs.declared.constraint.Constraint.{Constraint}

-- a constraint before that place begins at the register
pub record BeginsBefore (cycle : List Constraint) (place register : ℕ) : Type 0 where
  pub earlier : ℕ
  pub other : Constraint
  pub before : earlier < place
  pub here : slice_get cycle earlier ≡ Some other
  pub begins : other.tail ≡ register

-- for each register whether one does
pub record AreTailsBefore (cycle : List Constraint) (place : ℕ) (seen : List Bool) : Type 0 where
  pub marked : (register : ℕ) → BeginsBefore cycle place register
      → slice_index_or seen register false ≡ true
  pub begun : (register : ℕ) → slice_index_or seen register false ≡ true
      → BeginsBefore cycle place register
