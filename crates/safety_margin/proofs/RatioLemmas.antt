-- The greatest ratio of a list at a period: where the search begins, and what it excludes.
use Rattle.safety_margin.proofs.Vocabulary.{ℕ, ◌+◌, ◌≤◌, ◌^◌, ℤ, pos, negsuc, neg_ℤ, ◌+ℤ◌, ◌-ℤ◌, ◌*ℤ◌, ◌≤ℤ◌, Bool, true, false, if◌then◌else◌, List, [], ◌∷◌, length, get_or, arith, mul-le-mul_left, ints, Fraction, Constraint, AreSmallConstraints, count_of, IsBelow, Measure, IsCycle, total_count, total_weight, CanTry, SatisfiesRatio, IsSmallRatio, HasNoCycle, Spares, IsMarginPeriod, IsBelowAll, IsMeasureAt, up, down}
use Rattle.safety_margin.proofs.SparedCycles.{cycle_among_spares}

-- a ratio below all can be tried
pub below_can_try : (period first : Fraction) (measure : Measure) → IsMarginPeriod period
    → IsMeasureAt period measure → IsBelowAll period first → CanTry measure first
below_can_try period first measure range at below =
    rw (at.scale_is, at.period_is, below.num_is, below.den_is)
    (over period.den period.num period.lowest.some_den range.from_zero)
  where
    over : (q p : ℤ) → pos 1 ≤ℤ q → pos 0 ≤ℤ p
        → IsSmallRatio q p (neg_ℤ ((q *ℤ pos (10 ^ 11)) +ℤ p)) (pos 1)
    over q p some from_zero = record {
      above = omega (arith, ints);
      below = omega (arith, ints);
      proper = omega (arith, ints);
      low = omega (arith, ints);
    }

-- a constraint counts the period once at most
count_once : (constraint : Constraint) → count_of constraint ≤ 1
count_once constraint = at constraint.setup
  where
    at : (setup : Bool) → (if setup then 1 else 0) ≤ 1
    at true = omega arith
    at false = omega arith

-- at a ratio below all each head is later than its tail
later : (q p w from to : ℤ) (count : ℕ) → pos 1 ≤ℤ q → pos 0 ≤ℤ p → count ≤ 1
    → IsBelow (10 ^ 11) w → (from +ℤ (pos 1 *ℤ ((q *ℤ w) -ℤ (p *ℤ pos count))))
    ≤ℤ (to +ℤ (neg_ℤ ((q *ℤ pos (10 ^ 11)) +ℤ p) *ℤ pos 1))
    → (from +ℤ ((pos 0 *ℤ w) +ℤ pos 1)) ≤ℤ (to +ℤ (pos 0 *ℤ pos count))
later (pos q) (pos p) w from to count some from_zero once small met =
    let above : down w + 1 ≤ up w + 100000000000 = omega (arith, ints, small.above) in
    let first = mul-le-mul_left q above in
    let second = mul-le-mul_left p once in
    omega (arith, ints)
later (negsuc q) p w from to count some from_zero once small met = absurd (omega (arith, ints))
later (pos q) (negsuc p) w from to count some from_zero once small met =
    absurd (omega (arith, ints))

-- so constraints that are satisfied there have no cycle
pub no_cycle : (registers : ℕ) (constraints : List Constraint) (period first : Fraction)
    (measure : Measure) → AreSmallConstraints registers constraints → IsMarginPeriod period
    → IsMeasureAt period measure → IsBelowAll period first
    → (arrival : ℕ → ℤ) × SatisfiesRatio measure constraints first arrival → HasNoCycle constraints
no_cycle registers constraints period first measure small range at below satisfied cycle among
    is_cycle =
    ends (total_weight cycle) (total_count cycle) (length cycle) (some cycle is_cycle)
    (cycle_among_spares 0 (pos 0) (pos 1) satisfied.0 constraints cycle among is_cycle spares)
  where
    spares : Spares constraints 0 (pos 0) (pos 1) satisfied.0
    spares place default within =
        let it : Constraint = get_or constraints place default in
        later period.den period.num it.weight (satisfied.0 it.tail) (satisfied.0 it.head)
        (count_of it) period.lowest.some_den range.from_zero (count_once it)
        (small.each place default within).weight
        (rw (at.scale_is, at.period_is, at.every_is, below.num_is, below.den_is) at
        (satisfied.1 place default within))

    some : (cycle : List Constraint) → IsCycle cycle → 1 ≤ length cycle
    some [] is_cycle = absurd is_cycle.closed
    some (step ∷ steps) is_cycle = omega arith

    ends : (w : ℤ) (k n : ℕ) → 1 ≤ n
        → ((pos 0 *ℤ w) +ℤ (pos 1 *ℤ pos n)) ≤ℤ (pos 0 *ℤ pos k) → ⊥
    ends w k n more sum = omega (arith, ints)
