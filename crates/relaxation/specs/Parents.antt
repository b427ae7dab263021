-- Parents: for some registers a constraint that leads to it, by its place in a list. Cherkassky and
-- Goldberg, "Negative-cycle detection algorithms", 1999.
use Rattle.std.specs.Prelude.{◌≡◌, ◌<◌, ℕ, ℤ, pos, ◌+ℤ◌, ◌≤ℤ◌, ◌<ℤ◌, List, [], ◌∷◌, length, slice_get, slice_index_or, Option, Some}
use Rattle.std.specs.Option.{option_and_then}
use Rattle.cts_model.specs.declared.constraint.Constraint.{Constraint}
use Rattle.relaxation.specs.declared.gains.Gains.{Gains}
use Rattle.relaxation.specs.Gains.{gain_of, total_gain}

-- the parent of a register, if it has one
abbrev pub parent_of : List Constraint → List ℕ → ℕ → Option Constraint
parent_of constraints parents register =
    option_and_then (slice_get constraints) (slice_get parents register)

-- each parent leads to the register that it is a parent of
abbrev pub HaveOwnHeads : List Constraint → (parents : List ℕ) → Type 0
HaveOwnHeads constraints parents = (register : ℕ) (parent : Constraint)
    → parent_of constraints parents register ≡ Some parent → parent.head ≡ register

-- from register to register up the parents: from a head to the tail of its parent
abbrev pub Climbs : List Constraint → List ℕ → ℕ → List Constraint → ℕ → Type 0
Climbs constraints parents from [] to = from ≡ to
Climbs constraints parents from (constraint ∷ above) to =
    (parent_of constraints parents from ≡ Some constraint)
    × Climbs constraints parents constraint.tail above to

-- so many parents as there are registers lead up from the one register to the other
abbrev pub ReachesUp : List Constraint → List ℕ → ℕ → ℕ → Type 0
ReachesUp constraints parents from to = (above : List Constraint)
    × (length above ≡ length parents) × Climbs constraints parents from above to

-- whoever climbs from some register makes as many steps as there are registers, to this one
pub record EndsClimb (constraints : List Constraint) (parents : List ℕ) (register : ℕ) : Type 0
  where
    pub from : ℕ
    pub above : List Constraint
    pub long : length above ≡ length parents
    pub climbs : Climbs constraints parents from above register

-- the value of a register
abbrev pub value_of : List ℤ → ℕ → ℤ
value_of values register = slice_index_or values register (pos 0)

-- each register with a parent has no more than its parent gives it, and whoever climbs from a
-- register back to it has gained
pub record AreParents (constraints : List Constraint) (gains : Gains) (values : List ℤ)
    (parents : List ℕ) : Type 0 where
  pub heads : HaveOwnHeads constraints parents
  pub given : (register : ℕ) (parent : Constraint)
      → parent_of constraints parents register ≡ Some parent
      → value_of values register ≤ℤ (value_of values parent.tail +ℤ gain_of gains parent)
  pub rings : (register : ℕ) (above : List Constraint) → 0 < length above
      → Climbs constraints parents register above register → pos 0 <ℤ total_gain gains above
