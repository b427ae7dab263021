-- Along leads, whose constraints are tight, no arrivals that meet the period are earlier.
use Rattle.cts_model.proofs.Vocabulary.{◌≡◌, ℕ, zero, suc, ◌<◌, ◌≤◌, ◌+◌, ◌*◌, ℤ, pos, ◌+ℤ◌, ◌-ℤ◌, ◌*ℤ◌, ◌≤ℤ◌, List, length, sym, ap, subst, arith, nat_abs, ints, *ℤ-zero, Fraction, Circuit, Tech, IsConstraintOf, count_of, arrival_of, AreFromZero, AreLeastArrivals, Meets}
use Rattle.cts_model.specs.Types.{Lead, Zero, Tight}
use Rattle.cts_model.specs.Vocabulary.{ShowsEarliest, EachShowsEarliest, depth_of, lead_at}
use Rattle.cts_model.proofs.CircuitConstraints.{met_constraint}
use Rattle.cts_model.proofs.PathRegisters.{tail_within}
use Rattle.cts_model.proofs.ScaleLemmas.{size_same, scale-sub, scale-finer, scale-product}

-- where a tight constraint leads from a tail that isn't later than in other arrivals, which satisfy
-- it, its head isn't later either
handed_on : (scale times count : ℕ) (weight period from to other_from other_to : ℤ)
    → to -ℤ from ≡ (pos scale *ℤ weight) -ℤ (period *ℤ pos count)
    → (other_from +ℤ (pos (scale * times) *ℤ weight))
    ≤ℤ (other_to +ℤ ((period *ℤ pos times) *ℤ pos count))
    → (pos times *ℤ from) ≤ℤ other_from → (pos times *ℤ to) ≤ℤ other_to
handed_on scale times count weight period from to other_from other_to tight met low =
    let over = ap (λ z. pos times *ℤ z) tight in
    let apart = scale-sub times to from in
    let asked = scale-sub times (pos scale *ℤ weight) (period *ℤ pos count) in
    let finer = scale-finer scale times weight in
    let due = scale-product times count period in
    omega (arith, ints)

-- other arrivals, that many times as fine, are no earlier at that register
abbrev IsLow : (times : ℕ) (at : List ℤ) (other : ℕ → ℤ) → ℕ → Type 0
IsLow times at other register = (pos times *ℤ arrival_of at register) ≤ℤ other register

module _ (circuit : Circuit) (tech : Tech) (period : Fraction) (at : List ℤ) (leads : List Lead)
    (all : length at ≡ length circuit.registers)
    (led : EachShowsEarliest (IsConstraintOf circuit tech) period at leads) (times : ℕ)
    (other : ℕ → ℤ) (from_zero : AreFromZero (length at) other)
    (meets : Meets circuit tech (nat_abs period.den * times) (period.num *ℤ pos times) other) where
  -- what a lead says, where it holds of the registers whose leads take fewer constraints
  low_by_lead : (register : ℕ) → register < length at → (lead : Lead)
      → ShowsEarliest (IsConstraintOf circuit tech) period at leads register lead
      → ((tail : ℕ) → tail < length at → 1 + depth_of (lead_at leads tail) ≤ depth_of lead
      → IsLow times at other tail) → IsLow times at other register
  low_by_lead register within Zero at_zero fewer =
      let none = ap (λ z. pos times *ℤ z) at_zero in
      omega (arith, ints, *ℤ-zero (pos times), from_zero register within)
  low_by_lead register within (Tight depth constraint) is fewer =
      let met = met_constraint circuit tech (nat_abs period.den * times)
      (period.num *ℤ pos times) other meets constraint is.given in
      let inside = tail_within circuit tech constraint is.given in
      let tail_low = fewer constraint.tail (omega arith) (omega (arith, is.depth_is)) in
      let tight = subst (λ (z : ℤ). arrival_of at constraint.head -ℤ arrival_of at constraint.tail
      ≡ (z *ℤ constraint.weight) -ℤ (period.num *ℤ pos (count_of constraint)))
      (sym (size_same period.den (omega (arith, ints, period.lowest.some_den)))) is.tight in
      subst (IsLow times at other) is.head
      (handed_on (nat_abs period.den) times (count_of constraint) constraint.weight
      period.num (arrival_of at constraint.tail) (arrival_of at constraint.head)
      (other constraint.tail) (other constraint.head) tight met tail_low)

  -- so it is with each register, by how many constraints its lead takes
  low_by_depth : (bound register : ℕ) → depth_of (lead_at leads register) < bound
      → register < length at → IsLow times at other register
  low_by_depth zero register shallow within = absurd (omega arith)
  low_by_depth (suc bound) register shallow within =
      low_by_lead register within (lead_at leads register) (led register within)
      (λ tail inside fewer. low_by_depth bound tail (omega arith) inside)

-- arrivals that meet the period and whose registers have their leads are the least
pub led_arrivals_are_least : (circuit : Circuit) (tech : Tech) (period : Fraction) (at : List ℤ)
    → (leads : List Lead) → length at ≡ length circuit.registers
    → Meets circuit tech (nat_abs period.den) period.num (arrival_of at)
    → AreFromZero (length at) (arrival_of at)
    → EachShowsEarliest (IsConstraintOf circuit tech) period at leads
    → AreLeastArrivals circuit tech period.num (nat_abs period.den) at
led_arrivals_are_least circuit tech period at leads all meets from_zero led = record {
  meets = meets;
  from_zero = from_zero;
  least = λ times other proper other_from_zero other_meets register within.
      low_by_depth circuit tech period at leads all led times other other_from_zero other_meets
      (depth_of (lead_at leads register) + 1) register (omega arith) within;
}
