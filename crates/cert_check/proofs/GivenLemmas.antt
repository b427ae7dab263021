-- Constraints by the delays of their pairs.
use Rattle.cert_check.proofs.Vocabulary.{◌≡◌, ◌↔◌, ℕ, ℤ, ◌+ℤ◌, ◌-ℤ◌, Bool, true, false, Some, arith, MatchBool, ints, Circuit, Constraint, Tech, PairDelay, IsConstraintOf, IsHoldConstraint, IsSetupConstraint, IsDelayBetween, IsJoinedBy, pair_of, weight_by}

module _ (circuit : Circuit) (tech : Tech) (from to : ℕ) (weight : ℤ) where
  -- a pair's greatest delay gives the weight exactly where it is that of a setup constraint
  setup_by : (delays : PairDelay) → IsDelayBetween circuit tech from to delays
      → (delays.greatest +ℤ tech.setup ≡ weight) ↔ IsSetupConstraint circuit tech from to weight
  setup_by delays is = search (arith, ints)

  -- and its least delay that of a hold constraint
  hold_by : (delays : PairDelay) → IsDelayBetween circuit tech from to delays
      → (tech.hold -ℤ delays.least ≡ weight) ↔ IsHoldConstraint circuit tech from to weight
  hold_by delays is = search (arith, ints)

module _ (circuit : Circuit) (tech : Tech) where
  -- a constraint is one of the circuit exactly where its pair's delays give its weight
  given_either : (setup : Bool) (tail head : ℕ) (weight : ℤ) (delays : PairDelay)
      → IsDelayBetween circuit tech
      (pair_of (record { setup = setup; tail = tail; head = head; weight = weight })).0
      (pair_of (record { setup = setup; tail = tail; head = head; weight = weight })).1 delays
      → (weight_by tech setup delays ≡ weight) ↔ MatchBool setup
      (IsSetupConstraint circuit tech tail head weight)
      (IsHoldConstraint circuit tech head tail weight)
  given_either true tail head weight delays is = setup_by circuit tech tail head weight delays is
  given_either false tail head weight delays is = hold_by circuit tech head tail weight delays is

  pub given_by : (constraint : Constraint) (delays : PairDelay)
      → IsJoinedBy circuit tech (pair_of constraint).0 (pair_of constraint).1 (Some delays)
      → (weight_by tech constraint.setup delays ≡ constraint.weight)
      ↔ IsConstraintOf circuit tech constraint
  given_by constraint delays =
      given_either constraint.setup constraint.tail constraint.head constraint.weight delays
