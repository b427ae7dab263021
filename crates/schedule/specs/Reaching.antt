-- How far tight constraints reach from the registers at 0.
use Rattle.std.specs.Prelude.{◌≡◌, ◌<◌, ◌≤◌, ◌+◌, ◌++◌, ◌∷◌, [], ℕ, pos, Bool, true, false, if◌then◌else◌, List, Contains, length, slice_index, slice_index_or, slice_set}
use Rattle.std.specs.List.{sum_by}
use Rattle.cts_model.specs.declared.constraint.Constraint.{Constraint}
use Rattle.cts_model.specs.declared.schedule.Lead.{Lead}
use Rattle.cts_model.specs.declared.schedule.Lead.TheVariants.{Zero, Tight}
use Rattle.cts_model.specs.Vocabulary.{arrival_of, IsLead, IsTight, depth_of, lead_at}
use Rattle.schedule.specs.declared.arrivals.Arrivals.{Arrivals}
use Rattle.schedule.specs.declared.reach.Reach.{Reach}

-- the register is reached
abbrev pub IsReached : Reach → ℕ → Type 0
IsReached reach register = slice_index_or reach.reached.items register false ≡ true

-- the register's lead comes from one that is reached
abbrev pub IsFromReached : Reach → Lead → Type 0
IsFromReached reach Zero = Unit {0}
IsFromReached reach (Tight depth constraint) = IsReached reach constraint.tail

-- how many registers aren't reached
abbrev pub unreached : List Bool → ℕ
unreached = sum_by (λ reached. if reached then 0 else 1)

-- those that are reached have their leads and stand in the queue; of those at 0, so many are looked
-- at
pub record IsReaching (arrivals : Arrivals)
    (looked : ℕ) (reach : Reach) : Type 0 where
  pub flags : length reach.reached.items ≡ length arrivals.at.now
  pub long : length reach.leads.items ≡ length arrivals.at.now
  pub zeros : (register : ℕ) → register < looked → arrival_of arrivals.at.now register ≡ pos 0
      → IsReached reach register
  pub fresh : (register : ℕ) → looked ≤ register
      → slice_index_or reach.reached.items register false ≡ false
  pub led : (register : ℕ) → IsReached reach register
      → IsLead (Contains arrivals.constraints.now) arrivals.period arrivals.at.now reach.leads.items
      register
      (lead_at reach.leads.items register)
  pub from : (register : ℕ) → IsReached reach register
      → IsFromReached reach (lead_at reach.leads.items register)
  pub low : (register : ℕ) → depth_of (lead_at reach.leads.items register)
      ≤ length reach.queue.items
  pub waits : (register : ℕ) → IsReached reach register → (place : ℕ)
      × (place < length reach.queue.items) × (slice_index reach.queue.items place ≡ register)
  pub known : (place : ℕ) → place < length reach.queue.items
      → IsReached reach (slice_index reach.queue.items place)
  pub room : unreached reach.reached.items + length reach.queue.items ≡ length arrivals.at.now

-- a register is given its lead
pub record IsAdded (register : ℕ) (lead : Lead) (old new : Reach) : Type 0 where
  pub flags : new.reached.items ≡ slice_set old.reached.items register true
  pub leads : new.leads.items ≡ slice_set old.leads.items register lead
  pub queue : new.queue.items ≡ old.queue.items ++ register ∷ []

-- what is reached stays so, in its place in the queue
pub record IsReachKept (old new : Reach) : Type 0 where
  pub kept : (register : ℕ) → IsReached old register → IsReached new register
  pub longer : length old.queue.items ≤ length new.queue.items
  pub same : (place : ℕ) → place < length old.queue.items
      → slice_index new.queue.items place ≡ slice_index old.queue.items place

-- the constraint's head is reached, if it is tight
abbrev pub IsHandedBy : Arrivals → Reach → (place : ℕ) → Type 0
IsHandedBy arrivals reach place = (default : Constraint)
    → IsTight arrivals.period arrivals.at.now
    (slice_index_or arrivals.constraints.now place default)
    → IsReached reach (slice_index_or arrivals.constraints.now place default).head

-- a constraint is looked at
pub record IsGrown (arrivals : Arrivals)
    (place : ℕ) (old new : Reach) : Type 0 where
  pub keeps : IsReachKept old new
  pub reaching : IsReaching arrivals (length arrivals.at.now) new
  pub handed : IsHandedBy arrivals new place

-- the constraints from this place on that lead from the register are looked at
pub record IsHanded (arrivals : Arrivals)
    (register start : ℕ) (old new : Reach) : Type 0 where
  pub keeps : IsReachKept old new
  pub reaching : IsReaching arrivals (length arrivals.at.now) new
  pub handed : (place : ℕ) (default : Constraint) → start ≤ place → place < length
      arrivals.constraints.now
      → (slice_index_or arrivals.constraints.now place default).tail ≡ register
      → IsHandedBy arrivals new place

-- no tight constraint leads from what is reached to what isn't
pub record IsWhole (arrivals : Arrivals)
    (reach : Reach) : Type 0 where
  pub reaching : IsReaching arrivals (length arrivals.at.now) reach
  pub handed : (place : ℕ) (default : Constraint) → place < length arrivals.constraints.now
      → IsReached reach (slice_index_or arrivals.constraints.now place default).tail
      → IsHandedBy arrivals reach place
