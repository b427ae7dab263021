-- The constraints of a circuit beside the inequalities of its paths, and what cycles of them show.
use Rattle.cts_model.proofs.Vocabulary.{◌≡◌, ℕ, ◌+◌, ◌*◌, ◌≤◌, Bool, true, false, ℤ, pos, ◌+ℤ◌, ◌-ℤ◌, ◌*ℤ◌, ◌≤ℤ◌, ◌<ℤ◌, List, ap, arith, MatchBool, nat_abs, All, ints, All-weaker, All-contains_itself, Fraction, Circuit, Tech, Constraint, least_delay, greatest_delay, MeetsSetup, MeetsHold, Meets, IsAdmitted, IsSatisfied, Satisfies, IsSetupConstraint, IsHoldConstraint, IsConstraintOf, ShowsPeriod, IsCritical, IsForbidding, HasNoPeriod, up, down}
use Rattle.cts_model.proofs.CycleLemmas.{shown_period_is_least, forbidden_at_all}

-- what a path with the greatest delay asks, the setup constraint of that weight asks
setup_asked : (scale : ℕ) (launch capture greatest setup weight period : ℤ)
    → greatest +ℤ setup ≡ weight → MeetsSetup launch capture greatest setup (pos scale) period
    → (launch +ℤ (pos scale *ℤ weight)) ≤ℤ (capture +ℤ (period *ℤ pos 1))
setup_asked scale launch capture greatest setup weight period is meets =
    rw (← is) (omega (arith, ints))

-- and what one with the least delay asks, the hold constraint
hold_asked : (scale : ℕ) (launch capture least hold weight period : ℤ)
    → hold -ℤ least ≡ weight → MeetsHold launch capture least hold (pos scale)
    → (capture +ℤ (pos scale *ℤ weight)) ≤ℤ (launch +ℤ (period *ℤ pos 0))
hold_asked scale launch capture least hold weight period is meets =
    let plain : down weight + up hold + down least ≡ up weight + down hold + up least =
    omega (arith, ints) in
    omega (arith, ints, ap (λ n. scale * n) plain)

module _ (circuit : Circuit) (tech : Tech) (scale : ℕ) (period : ℤ) (arrival : ℕ → ℤ)
    (meets : Meets circuit tech scale period arrival) where
  -- arrivals that meet a period satisfy a constraint of either kind
  met_either : (setup : Bool) (tail head : ℕ) (weight : ℤ)
      → MatchBool setup (IsSetupConstraint circuit tech tail head weight)
      (IsHoldConstraint circuit tech head tail weight) → IsSatisfied scale period arrival
      (record { setup = setup; tail = tail; head = head; weight = weight })
  met_either true tail head weight its = setup_asked scale (arrival tail) (arrival head)
      (greatest_delay circuit tech its.path) tech.setup weight period its.weight_is
      (meets.setup tail head its.path its.joins)
  met_either false tail head weight its = hold_asked scale (arrival head) (arrival tail)
      (least_delay circuit tech its.path) tech.hold weight period its.weight_is
      (meets.hold head tail its.path its.joins)

  -- so they satisfy each
  pub met_constraint : (constraint : Constraint) → IsConstraintOf circuit tech constraint
      → IsSatisfied scale period arrival constraint
  met_constraint constraint = met_either constraint.setup constraint.tail constraint.head
      constraint.weight

  -- and all of a list
  met_all : (constraints : List Constraint) → All (IsConstraintOf circuit tech) constraints
      → Satisfies constraints scale period arrival
  met_all constraints = All-weaker (IsConstraintOf circuit tech)
      (IsSatisfied scale period arrival) met_constraint constraints

-- no period below the one that a cycle of the circuit's constraints shows is admitted
pub cycle_is_least : (circuit : Circuit) (tech : Tech) (numerator : ℤ) (denominator : ℕ)
    → (cycle : List Constraint) → All (IsConstraintOf circuit tech) cycle
    → ShowsPeriod cycle numerator denominator → (scale : ℕ) (period : ℤ)
    → (period *ℤ pos denominator) <ℤ (numerator *ℤ pos scale)
    → IsAdmitted circuit tech scale period → ⊥
cycle_is_least circuit tech numerator denominator cycle of_circuit shows scale period small
    admitted =
    let (floor, (arrival, meets)) = admitted in
    shown_period_is_least cycle cycle numerator denominator scale period arrival
    (All-contains_itself cycle) shows small
    (met_all circuit tech scale period arrival meets cycle of_circuit)

-- so it is with a critical cycle
pub critical_is_least : (circuit : Circuit) (tech : Tech) (shown : Fraction)
    → (cycle : List Constraint) → IsCritical circuit tech shown cycle
    → (scale : ℕ) (period : ℤ) → 1 ≤ scale
    → (period *ℤ pos (nat_abs shown.den)) <ℤ (shown.num *ℤ pos scale)
    → IsAdmitted circuit tech scale period → ⊥
critical_is_least circuit tech shown cycle critical scale period proper small admitted =
    cycle_is_least circuit tech shown.num (nat_abs shown.den) cycle critical.of_circuit
    critical.shows scale period small admitted

-- and none at all where a cycle forbids every period
pub forbidding_at_all : (circuit : Circuit) (tech : Tech) (cycle : List Constraint)
    → IsForbidding circuit tech cycle → HasNoPeriod circuit tech
forbidding_at_all circuit tech cycle forbidding scale period proper admitted =
    let (floor, (arrival, meets)) = admitted in
    forbidden_at_all cycle cycle scale period arrival (All-contains_itself cycle)
    forbidding.forbids proper
    (met_all circuit tech scale period arrival meets cycle forbidding.of_circuit)
