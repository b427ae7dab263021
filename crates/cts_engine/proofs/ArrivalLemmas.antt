-- How late the arrivals of a least schedule are, and its leads.
use Rattle.cts_engine.proofs.Vocabulary.{◌⊎◌, ◌<◌, ◌≤◌, ◌-◌, ◌*◌, ℕ, ℤ, pos, ◌≤ℤ◌, List, length, get_or, Contains, inl, inr, arith, nat_abs, All, cases_lt, ints, get_or_past, All-contains, mul-le, Fraction, Circuit, Constraint, Lead, Zero, Tight, Tech, IsConstraintOf, EachLead, IsLead, lead_at, IsLeastFraction, AreFromZero, IsSmallPeriod, arrival_of, IsWithin, AreWithinWeights, IsAdmittedBy, AreConstraintsOf, HasSmallPairs, AreTreeArrivals}
use Rattle.cts_engine.proofs.DelayLemmas.{weight_small}

-- so many weights over a denominator
weights_bound : (count den : ℕ) → count ≤ 4096 → den ≤ 4097
    → count * (den * 70000000000) ≤ 1200000000000000000
weights_bound count den few low = search (arith, mul-le)

-- arrivals within the weights of a circuit's constraints are within those of a tree
pub tree_arrivals : (circuit : Circuit) (tech : Tech) (constraints : List Constraint)
    → (period : Fraction) (at : List ℤ) → HasSmallPairs circuit tech
    → All (IsConstraintOf circuit tech) constraints → IsSmallPeriod period → length at ≤ 4097
    → AreWithinWeights constraints (nat_abs period.den) at → AreFromZero (length at) (arrival_of at)
    → AreTreeArrivals at
tree_arrivals circuit tech constraints period at delays each range few within from_zero register =
    by_place (cases_lt register (length at))
  where
    weights : All (λ (constraint : Constraint). constraint.weight ≤ℤ pos 70000000000) constraints
    weights place default here =
        let small = weight_small delays (get_or constraints place default)
        (each place default here) in
        omega (arith, ints, small)

    den_low : nat_abs period.den ≤ 4097
    den_low = omega (arith, ints, range.low, period.lowest.some_den)

    by_place : (register < length at) ⊎ (length at ≤ register)
        → IsWithin 0 1200000000000000000 (arrival_of at register)
    by_place (inl here) =
        let late = within 70000000000 weights register here in
        let most = weights_bound (length at - 1) (nat_abs period.den) (omega arith) den_low in
        record { above = from_zero register here; below = omega (arith, ints, late, most) }
    by_place (inr past) =
        let none = get_or_past at register (pos 0) past in
        record { above = omega (arith, ints, none); below = omega (arith, ints, none) }

-- leads by constraints of a list are leads by those of the circuit
pub leads_of_circuit : (circuit : Circuit) (tech : Tech) (constraints : List Constraint)
    → (period : Fraction) (at : List ℤ) (leads : List Lead)
    → All (IsConstraintOf circuit tech) constraints
    → EachLead (Contains constraints) period at leads
    → EachLead (IsConstraintOf circuit tech) period at leads
leads_of_circuit circuit tech constraints period at leads of_circuit each register here =
    by_lead (lead_at leads register) (each register here)
  where
    by_lead : (lead : Lead) → IsLead (Contains constraints) period at leads register lead
        → IsLead (IsConstraintOf circuit tech) period at leads register lead
    by_lead Zero zero = zero
    by_lead (Tight depth constraint) tight = record {
      late = tight.late;
      led = record {
        given = All-contains (IsConstraintOf circuit tech) constraints constraint of_circuit
            tight.led.given;
        head = tight.led.head;
        tight = tight.led.tight;
        depth_is = tight.led.depth_is;
      };
    }

module _ {circuit : Circuit} {tech : Tech} {constraints : List Constraint}
    (are : AreConstraintsOf circuit tech constraints) where
  -- the least period of the circuit is one at which the constraints have arrivals
  pub admitted_by : (period : Fraction) → IsLeastFraction circuit tech period
      → IsAdmittedBy constraints period
  admitted_by period least = search arith
