-- How values of registers are raised in place until constraints hold, each with the constraint that
-- raised it. Cherkassky and Goldberg, "Negative-cycle detection algorithms", 1999.
use Rattle.std.specs.Prelude.{◌≡◌, ◌<◌, ◌^◌, ℕ, ℤ, pos, ◌+ℤ◌, ◌≤ℤ◌, ◌<ℤ◌, List, length, replicate, slice_get, slice_set, Option, IfSome, MatchOption}
use Rattle.cts_model.specs.declared.constraint.Constraint.{Constraint}
use Rattle.relaxation.specs.declared.gains.Gains.{Gains}
use Rattle.relaxation.specs.declared.relaxation.Relaxation.{Relaxation}
use Rattle.cts_model.specs.Vocabulary.{IsBelow}
use Rattle.relaxation.specs.Gains.{gain_of}
use Rattle.relaxation.specs.Parents.{value_of, AreParents, EndsClimb}

-- values of 0 for so many registers
pub record IsFromZero (constraints : List Constraint) (registers : ℕ)
    (relaxation : Relaxation) : Type 0 where
  pub constraints_are : relaxation.constraints.now ≡ constraints
  pub values : relaxation.values.items ≡ replicate registers (pos 0)

-- what the constraint gives its head
abbrev pub offer_of : Gains → List ℤ → Constraint → ℤ
offer_of gains values constraint =
    value_of values constraint.tail +ℤ gain_of gains constraint

-- that is more than the head has
abbrev pub GivesMore : Gains → List ℤ → Constraint → Type 0
GivesMore gains values constraint =
    value_of values constraint.head <ℤ offer_of gains values constraint

-- or no more
abbrev pub GivesNoMore : Gains → List ℤ → Constraint → Type 0
GivesNoMore gains values constraint =
    offer_of gains values constraint ≤ℤ value_of values constraint.head

-- this is what the constraint gives its head, and more than that has
pub record IsOffer (gains : Gains) (values : List ℤ) (constraint : Constraint) (offer : ℤ)
    : Type 0 where
  pub is : offer ≡ offer_of gains values constraint
  pub more : GivesMore gains values constraint
  pub small : IsBelow (2 ^ 116) offer

-- a constraint that gives no more changes nothing
pub record IsLeft (gains : Gains) (constraint : Constraint) (old new : Relaxation) : Type 0 where
  pub met : GivesNoMore gains old.values.items constraint
  pub values : new.values.items ≡ old.values.items
  pub parents : new.parents.items ≡ old.parents.items
  pub constraints : new.constraints.now ≡ old.constraints.now

-- a constraint that gives more is the head's parent now
pub record IsRaised (gains : Gains) (place : ℕ) (constraint : Constraint) (old : Relaxation)
    (register : ℕ) (new : Relaxation) : Type 0 where
  pub head : register ≡ constraint.head
  pub more : GivesMore gains old.values.items constraint
  pub values : new.values.items
      ≡ slice_set old.values.items constraint.head (offer_of gains old.values.items constraint)
  pub parents : new.parents.items ≡ slice_set old.parents.items constraint.head place
  pub constraints : new.constraints.now ≡ old.constraints.now

-- the constraint at the place is looked at, and this register changed, if any did
abbrev pub IsRelaxed : List Constraint → Gains → (place : ℕ) → (old : Relaxation)
    → (changed : Option ℕ) → (new : Relaxation) → Type 0
IsRelaxed constraints gains place old changed new =
    IfSome (slice_get constraints place) (λ constraint. MatchOption changed
    (IsLeft gains constraint old new)
    (λ register. IsRaised gains place constraint old register new))

-- the parents are those of the gains, and so many of them lead up to the register
pub record IsFarUp (constraints : List Constraint) (gains : Gains) (relaxation : Relaxation)
    (register : ℕ) : Type 0 where
  pub are_parents : AreParents constraints gains relaxation.values.items relaxation.parents.items
  pub within : register < length relaxation.values.items
  pub ends : EndsClimb constraints relaxation.parents.items register
