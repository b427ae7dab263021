-- The times of a report are within its bounds and of its circuit's size.
use Rattle.cts_engine.proofs.Vocabulary.{◌≡◌, ◌<◌, ◌≤◌, ◌^◌, ℕ, ℤ, List, length, get_or, refl, sym, subst, arith, All, ints, get_or_default, All-nil, Fraction, Circuit, Constraint, PeriodShow, Cycle, Floor, Lead, Zero, Tight, Tech, ArePathsOf, IsConstraintOf, EachLead, IsLead, depth_of, lead_at, IsPeriodShow, IsBelow, HasSmallWeight, HasSmallWeights, IsSmallLead, LeadsAmong, ShowsPeriodAmong, cycle_length, head_within, tail_within, HasSmallPairs, AreTreeArrivals}
use Rattle.cts_engine.proofs.CycleLengths.{cycle_some, cycle_within, few_registers, plain_paths}
use Rattle.cts_engine.proofs.DelayLemmas.{weight_small}

module _ {circuit : Circuit} {tech : Tech} (delays : HasSmallPairs circuit tech) where
  -- a constraint of the circuit has a small weight
  weight_below : (constraint : Constraint) → IsConstraintOf circuit tech constraint
      → HasSmallWeight constraint
  weight_below constraint is =
      let small = weight_small delays constraint is in
      record { above = omega (arith, ints, small); below = omega (arith, ints, small) }

  -- so have those that show a period, and there are few
  pub cycle_small : (period : Fraction) (shown : PeriodShow)
      → IsPeriodShow circuit tech period shown → HasSmallWeights shown
  cycle_small period (Cycle cycle) critical = (
    cycle_some cycle critical.shows.is_cycle,
    omega (
      arith,
      few_registers circuit,
      cycle_within circuit tech cycle critical.of_circuit critical.shows.is_cycle,
    ),
    λ place default here. weight_below (get_or cycle place default)
        (critical.of_circuit place default here),
  )
  cycle_small period Floor floor = tt

  -- so are their registers
  pub cycle_among : (period : Fraction) (shown : PeriodShow)
      → IsPeriodShow circuit tech period shown → ShowsPeriodAmong (length circuit.registers) shown
  cycle_among period (Cycle cycle) critical = λ place default here.
      let is = critical.of_circuit place default here in
      record {
        tail = tail_within circuit tech (get_or cycle place default) is;
        head = head_within circuit tech (get_or cycle place default) is;
      }
  cycle_among period Floor floor = tt

  -- leads have small depths and weights
  module _ (period : Fraction) (at : List ℤ) (leads : List Lead)
      (registers : length at ≡ length circuit.registers)
      (all : length leads ≡ length circuit.registers)
      (each : EachLead (IsConstraintOf circuit tech) period at leads)
      (low : (register : ℕ) → depth_of (lead_at leads register) ≤ length circuit.registers) where
    lead_is : (register : ℕ) (default : Lead) → register < length leads
        → lead_at leads register ≡ get_or leads register default
    lead_is register default here = get_or_default leads register Zero default here

    small_lead : (register : ℕ) (lead : Lead)
        → IsLead (IsConstraintOf circuit tech) period at leads register lead
        → depth_of lead ≤ length circuit.registers → IsSmallLead lead
    small_lead register Zero is few = tt
    small_lead register (Tight depth constraint) is few = (
      omega (arith, is.led.depth_is),
      omega (arith, few, few_registers circuit),
      weight_below constraint is.led.given,
    )

    lead_among : (register : ℕ) (lead : Lead)
        → IsLead (IsConstraintOf circuit tech) period at leads register lead
        → LeadsAmong (length circuit.registers) lead
    lead_among register Zero is = tt
    lead_among register (Tight depth constraint) is = record {
      tail = tail_within circuit tech constraint is.led.given;
      head = head_within circuit tech constraint is.led.given;
    }

    pub leads_small : All IsSmallLead leads
    leads_small register default here = subst IsSmallLead (lead_is register default here)
        (small_lead register (lead_at leads register) (each register (omega arith)) (low register))

    -- and name the circuit's registers
    pub leads_among : All (LeadsAmong (length circuit.registers)) leads
    leads_among register default here = search (arith, lead_is, lead_among)

-- arrivals of a tree are small
pub arrivals_small : (at : List ℤ) → AreTreeArrivals at → All (IsBelow (10 ^ 19)) at
arrivals_small at are register default here = search (arith, get_or_default, ints)

-- what the paths of what shows a period are
pub record ArePlain (circuit : Circuit) (shown : PeriodShow) (paths : List (List ℕ)) : Type 0 where
  pub all : length paths ≡ cycle_length shown
  pub each : All (All (λ n. n < length circuit.signals)) paths
  pub short : All (λ path. length path ≤ 65536) paths

pub paths_plain : (circuit : Circuit) (tech : Tech) (shown : PeriodShow) (paths : List (List ℕ))
    → ArePathsOf circuit tech shown paths → ArePlain circuit shown paths
paths_plain circuit tech (Cycle cycle) paths are =
    let plain = plain_paths circuit tech 4096 cycle paths are in
    record {
      all = plain.all;
      each = plain.each;
      short = λ place default here. omega (arith, plain.short place default here);
    }
paths_plain circuit tech Floor paths none = subst (ArePlain circuit Floor) (sym none) (record {
  all = refl;
  each = All-nil (All (λ n. n < length circuit.signals));
  short = All-nil (λ (path : List ℕ). length path ≤ 65536);
})
