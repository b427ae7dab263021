-- Constraints by what joins their pairs.
use Rattle.cert_check.proofs.Vocabulary.{◌≡◌, ◌<◌, ◌↔◌, ℕ, ℤ, Bool, false, true, List, length, map, get_or, Option, Some, None, ap, subst, ◌∙◌, arith, All, IfSome, IsSomeAnd, MatchBool, slice_get, length-map, All-map, slice_get-get_or, slice_get-map, Circuit, Constraint, Tech, PairDelay, IsPath, IsConstraintOf, IsHoldConstraint, IsSetupConstraint, IsOfCircuit, IsBetweenRegisters, AreDelaysBetween, IsJoinedBy, pair_of, weight_by}
use Rattle.std.specs.Option.{option_map}
use Rattle.cts_model.specs.Vocabulary.{IsSmallPair}
use Rattle.cert_check.proofs.GivenLemmas.{given_by}

-- the registers of a pair are those of its constraint
pair_either : (registers : ℕ) (setup : Bool) (tail head : ℕ) (weight : ℤ) → tail < registers
    → head < registers
    → ((pair_of (record { setup = setup; tail = tail; head = head; weight = weight })).0
    < registers) × ((pair_of
    (record { setup = setup; tail = tail; head = head; weight = weight })).1 < registers)
pair_either registers true tail head weight low high = (low, high)
pair_either registers false tail head weight low high = (high, low)

pub pair_among : (registers : ℕ) (constraint : Constraint)
    → IsBetweenRegisters registers constraint
    → ((pair_of constraint).0 < registers) × ((pair_of constraint).1 < registers)
pair_among registers constraint among = pair_either registers constraint.setup constraint.tail
    constraint.head constraint.weight among.tail among.head

pub pairs_among : (registers : ℕ) (constraints : List Constraint)
    → All (IsBetweenRegisters registers) constraints
    → All (λ (pair : ℕ × ℕ). (pair.0 < registers) × (pair.1 < registers)) (map pair_of constraints)
pairs_among registers constraints among =
    All-map (λ (pair : ℕ × ℕ). (pair.0 < registers) × (pair.1 < registers)) pair_of constraints
    (λ place d within. pair_among registers (get_or constraints place d) (among place d within))

-- the delays at the place of a constraint are those of its pair
joined_here : (circuit : Circuit) (tech : Tech) (constraints : List Constraint)
    (delays : List (Option PairDelay)) → AreDelaysBetween circuit tech (map pair_of constraints)
    delays → (place : ℕ) (constraint : Constraint) (joined : Option PairDelay)
    → slice_get constraints place ≡ Some constraint → slice_get delays place ≡ Some joined
    → IsJoinedBy circuit tech (pair_of constraint).0 (pair_of constraint).1 joined
joined_here circuit tech constraints delays are place constraint joined here there =
    subst (λ found. IsSomeAnd found
    (IsJoinedBy circuit tech (pair_of constraint).0 (pair_of constraint).1)) there
    (are.each place (pair_of constraint).0 (pair_of constraint).1
    (slice_get-map pair_of constraints place ∙ ap (option_map pair_of) here))

-- and they are small
joined_small : (circuit : Circuit) (tech : Tech) (from to : ℕ) (joined : Option PairDelay)
    → IsJoinedBy circuit tech from to joined → IfSome joined IsSmallPair
joined_small circuit tech from to None is = tt
joined_small circuit tech from to (Some delays) is = is.small

-- where nothing joins a constraint's pair, it isn't one of the circuit
none_given : (circuit : Circuit) (tech : Tech) (setup : Bool) (tail head : ℕ) (weight : ℤ)
    → ((path : List ℕ) → IsPath circuit
    (pair_of (record { setup = setup; tail = tail; head = head; weight = weight })).0
    (pair_of (record { setup = setup; tail = tail; head = head; weight = weight })).1 path → ⊥)
    → MatchBool setup (IsSetupConstraint circuit tech tail head weight)
    (IsHoldConstraint circuit tech head tail weight) → ⊥
none_given circuit tech true tail head weight none its = none its.path its.joins
none_given circuit tech false tail head weight none its = none its.path its.joins

-- what joins the pair of a constraint gives it its weight exactly where it is one of the circuit
given_joined : (circuit : Circuit) (tech : Tech) (constraint : Constraint)
    (joined : Option PairDelay)
    → IsJoinedBy circuit tech (pair_of constraint).0 (pair_of constraint).1 joined
    → IsSomeAnd joined (λ delays. weight_by tech constraint.setup delays ≡ constraint.weight)
    ↔ IsConstraintOf circuit tech constraint
given_joined circuit tech constraint None none = (
  λ given. absurd given,
  none_given circuit tech constraint.setup constraint.tail constraint.head constraint.weight none,
)
given_joined circuit tech constraint (Some delays) is = given_by circuit tech constraint delays is

-- so it is with the constraint and what joins its pair at a place
module _ (circuit : Circuit) (tech : Tech) (constraints : List Constraint)
    (delays : List (Option PairDelay))
    (are : AreDelaysBetween circuit tech (map pair_of constraints) delays) (place : ℕ)
    (constraint : Constraint) (joined : Option PairDelay) (within : place < length constraints)
  where
    pub as_many : length delays ≡ length constraints
    as_many = are.all ∙ length-map constraints pair_of

    is_joined : IsJoinedBy circuit tech (pair_of (get_or constraints place constraint)).0
        (pair_of (get_or constraints place constraint)).1 (get_or delays place joined)
    is_joined = search (arith, joined_here, slice_get-get_or, as_many)

    pub small_at : IfSome (get_or delays place joined) IsSmallPair
    small_at = joined_small circuit tech _ _ (get_or delays place joined) is_joined

    pub given_at : IsSomeAnd (get_or delays place joined)
        (λ delays. weight_by tech (get_or constraints place constraint).setup delays
        ≡ (get_or constraints place constraint).weight) ↔ IsOfCircuit circuit tech constraints place
    given_at = search (arith, slice_get-get_or, given_joined, is_joined)
