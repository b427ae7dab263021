-- What shows that arrivals are the least: chains of tight constraints from registers at 0, as in
-- the trees of shortest paths. Cormen, Leiserson, Rivest and Stein, "Introduction to
-- Algorithms", 2001.
use Rattle.std.specs.Prelude.{◌≡◌, ◌<◌, ◌+◌, ℕ, ℤ, pos, ◌-ℤ◌, ◌*ℤ◌, ◌<ℤ◌, List, length, slice_index_or}
use Rattle.cts_base.specs.declared.fraction.Fraction.{Fraction}
use Rattle.cts_model.specs.Types.{Constraint, Lead, Zero, Tight}
use Rattle.cts_model.specs.timing.Constraints.{count_of}
use Rattle.cts_model.specs.timing.Schedules.{arrival_of}

-- the head's arrival is just what the constraint asks
abbrev pub IsTight : Fraction → List ℤ → Constraint → Type 0
IsTight period at constraint = arrival_of at constraint.head -ℤ arrival_of at constraint.tail
    ≡ (period.den *ℤ constraint.weight) -ℤ (period.num *ℤ pos (count_of constraint))

-- how many constraints a lead takes
abbrev pub depth_of : Lead → ℕ
depth_of Zero = 0
depth_of (Tight depth constraint) = depth

-- the lead of a register
abbrev pub lead_at : List Lead → ℕ → Lead
lead_at leads register = slice_index_or leads register Zero

-- the constraint is one that is given, leads to the register and is tight, and the depth is 1 more
-- than that of its tail's lead
pub record IsLedBy (Given : Constraint → Type 0) (period : Fraction) (at : List ℤ)
    (leads : List Lead) (register depth : ℕ) (constraint : Constraint) : Type 0 where
  pub given : Given constraint
  pub head : constraint.head ≡ register
  pub tight : IsTight period at constraint
  pub depth_is : depth ≡ 1 + depth_of (lead_at leads constraint.tail)

-- the same of a register that isn't at 0
pub record IsTightLead (Given : Constraint → Type 0) (period : Fraction) (at : List ℤ)
    (leads : List Lead) (register depth : ℕ) (constraint : Constraint) : Type 0 where
  pub late : pos 0 <ℤ arrival_of at register
  pub led : IsLedBy Given period at leads register depth constraint

-- what a lead says of the register: it is at 0, or else a tight constraint leads to it
abbrev pub IsLead : (Given : Constraint → Type 0) → Fraction → List ℤ → List Lead
    → (register : ℕ) → Lead → Type 0
IsLead Given period at leads register Zero = arrival_of at register ≡ pos 0
IsLead Given period at leads register (Tight depth constraint) =
    IsTightLead Given period at leads register depth constraint

-- each register has its lead
abbrev pub EachLead : (Given : Constraint → Type 0) → Fraction → List ℤ → List Lead → Type 0
EachLead Given period at leads = (register : ℕ) → register < length at
    → IsLead Given period at leads register (lead_at leads register)

-- what shows that nothing is earlier at the register: it is at 0, or a tight constraint leads to it
abbrev pub ShowsEarliest : (Given : Constraint → Type 0) → Fraction → List ℤ → List Lead
    → (register : ℕ) → Lead → Type 0
ShowsEarliest Given period at leads register Zero = arrival_of at register ≡ pos 0
ShowsEarliest Given period at leads register (Tight depth constraint) =
    IsLedBy Given period at leads register depth constraint

-- and so it is with each register
abbrev pub EachShowsEarliest : (Given : Constraint → Type 0) → Fraction → List ℤ → List Lead
    → Type 0
EachShowsEarliest Given period at leads = (register : ℕ) → register < length at
    → ShowsEarliest Given period at leads register (lead_at leads register)
