-- The constraints of a circuit between two registers have one weight.
use Rattle.corners.proofs.Vocabulary.{◌≡◌, ℕ, ℤ, Bool, true, false, arith, MatchBool, ints, Circuit, Constraint, Tech, IsSetupConstraint, IsHoldConstraint, IsConstraintOf, AreAlike}

module _ (circuit : Circuit) (tech : Tech) where
  -- of either kind
  one_of_kind : (setup : Bool) (tail head : ℕ) (weight other : ℤ)
      → MatchBool setup (IsSetupConstraint circuit tech tail head weight)
      (IsHoldConstraint circuit tech head tail weight)
      → MatchBool setup (IsSetupConstraint circuit tech tail head other)
      (IsHoldConstraint circuit tech head tail other) → weight ≡ other
  one_of_kind true tail head weight other one two = omega (
    arith,
    ints,
    one.weight_is,
    two.weight_is,
    one.greatest two.path two.joins,
    two.greatest one.path one.joins,
  )
  one_of_kind false tail head weight other one two = omega (
    arith,
    ints,
    one.weight_is,
    two.weight_is,
    one.least two.path two.joins,
    two.least one.path one.joins,
  )

  -- so alike constraints have it
  pub one_weight : (one other : Constraint) → AreAlike one other → IsConstraintOf circuit tech one
      → IsConstraintOf circuit tech other → one.weight ≡ other.weight
  one_weight one other alike its others = one_of_kind other.setup other.tail other.head one.weight
      other.weight (rw (alike.setup, alike.tail, alike.head) at its) others
