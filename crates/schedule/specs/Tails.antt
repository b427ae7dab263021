-- Tight constraints by their tails, as linked lists from the last to the first.
use Rattle.std.specs.Prelude.{◌≡◌, ◌<◌, ◌≤◌, ◌+◌, ℕ, List, length, slice_index, slice_index_or}
use Rattle.cts_model.specs.declared.constraint.Constraint.{Constraint}
use Rattle.cts_model.specs.Vocabulary.{IsTight}
use Rattle.schedule.specs.declared.arrivals.Arrivals.{Arrivals}

-- the constraint is tight and leads from the register
pub record IsTightFrom (arrivals : Arrivals) (register : ℕ) (constraint : Constraint) : Type 0 where
  pub tail : constraint.tail ≡ register
  pub tight : IsTight arrivals.period arrivals.at.now constraint

-- the mark is 1 more than the place of the last such constraint before an end, or 0 where there is
-- none
pub record IsLastBefore (arrivals : Arrivals) (end register mark : ℕ) : Type 0 where
  pub within : mark ≤ end
  pub here : (place : ℕ) (default : Constraint) → place + 1 ≡ mark → IsTightFrom arrivals register
      (slice_index_or arrivals.constraints.now place default)
  pub none : (place : ℕ) (default : Constraint) → mark ≤ place → place < end → IsTightFrom arrivals
      register (slice_index_or arrivals.constraints.now place default) → ⊥

-- the last before an end that leads from each register, and for each before the end the one before
-- it from the same register
pub record AreTightByTail (arrivals : Arrivals) (end : ℕ) (last before : List ℕ) : Type 0 where
  pub lasts : length last ≡ length arrivals.at.now
  pub befores : length before ≡ length arrivals.constraints.now
  pub last_is : (register : ℕ) → register < length arrivals.at.now
      → IsLastBefore arrivals end register (slice_index last register)
  pub before_is : (register place : ℕ) (default : Constraint) → place < end → IsTightFrom arrivals
      register (slice_index_or arrivals.constraints.now place default)
      → IsLastBefore arrivals place register (slice_index before place)
