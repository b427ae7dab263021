-- Cycles of constraints by their places in a list.
use Rattle.std.specs.Prelude.{◌<◌, ◌≤◌, ℕ, List, All, IsSomeAnd, length, slice_get}
use Rattle.std.specs.List.{filter_map}
use Rattle.std.specs.Option.{option_map_or}
use Rattle.cts_model.specs.declared.constraint.Constraint.{Constraint}

-- the constraints at these places
abbrev pub constraints_at : List Constraint → (places : List ℕ) → List Constraint
constraints_at constraints places = filter_map (slice_get constraints) places

-- each is a place of the list
abbrev pub AreWithin : List Constraint → (places : List ℕ) → Type 0
AreWithin constraints places = All (λ place. place < length constraints) places

-- the first constraint has the lowest tail
abbrev pub IsFromLowest : List Constraint → Type 0
IsFromLowest cycle =
    IsSomeAnd (slice_get cycle 0) (λ first. All (λ other. first.tail ≤ other.tail) cycle)

-- the tail of the constraint at a place
abbrev pub tail_at : List Constraint → (place : ℕ) → ℕ
tail_at constraints place = option_map_or (λ constraint. constraint.tail)
    (slice_get constraints place) 0
