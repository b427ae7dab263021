-- The sum of constraints round a cycle, and what it leaves of the periods.
use Rattle.cts_model.proofs.Vocabulary.{◌≡◌, ℕ, ◌+◌, ◌*◌, ◌≤◌, ℤ, pos, ◌+ℤ◌, ◌*ℤ◌, ◌≤ℤ◌, ◌<ℤ◌, List, [], ◌∷◌, ap, arith, All, Contains, mul-le-mul_left, ints, All-head, All-tail, All-weaker, All-contains, sum_by-cons, Constraint, count_of, IsSatisfied, Satisfies, Leads, IsCycle, total_weight, total_count, ShowsPeriod, ForbidsPeriods, up, down}

-- what a constraint asks of its tail and its head, and others of its head and of where they lead,
-- they ask together of its tail and of where they lead
asked_together : (scale count counts total : ℕ) (period weight weights from tail head to : ℤ)
    → tail ≡ from → total ≡ count + counts
    → (tail +ℤ (pos scale *ℤ weight)) ≤ℤ (head +ℤ (period *ℤ pos count))
    → (head +ℤ (pos scale *ℤ weights)) ≤ℤ (to +ℤ (period *ℤ pos counts))
    → (from +ℤ (pos scale *ℤ (weight +ℤ weights))) ≤ℤ (to +ℤ (period *ℤ pos total))
asked_together scale count counts total period weight weights from tail head to same sum one rest =
    let plain : up (weight +ℤ weights) + down weight + down weights
    ≡ down (weight +ℤ weights) + up weight + up weights = omega (arith, ints) in
    let later = ap (λ n. up period * n) sum in
    let sooner = ap (λ n. down period * n) sum in
    omega (arith, ints, ap (λ n. scale * n) plain)

-- a period too small for the fraction that a cycle shows is too small for the cycle
too_small : (scale denominator count : ℕ) (weight numerator period : ℤ) → 1 ≤ count
    → pos denominator *ℤ weight ≡ numerator *ℤ pos count
    → (period *ℤ pos denominator) <ℤ (numerator *ℤ pos scale)
    → (pos scale *ℤ weight) ≤ℤ (period *ℤ pos count) → ⊥
too_small scale denominator count weight numerator period counts value small bounded =
    let shown : denominator * up weight + down numerator * count
    ≡ denominator * down weight + up numerator * count = omega (arith, ints) in
    let below : up period * denominator + down numerator * scale + 1
    ≤ up numerator * scale + down period * denominator = omega (arith, ints) in
    let within : scale * up weight + down period * count
    ≤ scale * down weight + up period * count = omega (arith, ints) in
    omega (
      arith,
      ap (λ n. scale * n) shown,
      mul-le-mul_left count below,
      mul-le-mul_left denominator within,
    )

-- a weight above 0 asks for time, where the period isn't counted
asks_for_time : (scale count : ℕ) (weight period : ℤ) → 1 ≤ scale → count ≡ 0
    → pos 0 <ℤ weight → (pos scale *ℤ weight) ≤ℤ (period *ℤ pos count) → ⊥
asks_for_time scale count weight period proper none asks bounded =
    let above : down weight + 1 ≤ up weight = omega (arith, ints) in
    let later = ap (λ n. up period * n) none in
    let sooner = ap (λ n. down period * n) none in
    omega (arith, ints, mul-le-mul_left scale above)

module _ (scale : ℕ) (period : ℤ) (arrival : ℕ → ℤ) where
  -- where constraints lead from one register to another, the arrivals between the two cancel
  sum_along : (from : ℕ) (constraints : List Constraint) (to : ℕ) → Leads from constraints to
      → Satisfies constraints scale period arrival
      → (arrival from +ℤ (pos scale *ℤ total_weight constraints))
      ≤ℤ (arrival to +ℤ (period *ℤ pos (total_count constraints)))
  sum_along from [] to same satisfied =
      let level : arrival from ≡ arrival to = ap arrival same in
      omega (arith, ints)
  sum_along from (constraint ∷ constraints) to (tail, leads) satisfied =
      let Satisfied = IsSatisfied scale period arrival in
      let rest = All-tail Satisfied constraint constraints satisfied in
      asked_together scale (count_of constraint) (total_count constraints)
      (total_count (constraint ∷ constraints)) period constraint.weight (total_weight constraints)
      (arrival from) (arrival constraint.tail) (arrival constraint.head) (arrival to)
      (ap arrival tail) (sum_by-cons count_of constraint constraints)
      (All-head Satisfied constraint constraints satisfied)
      (sum_along constraint.head constraints to leads rest)

-- so round a cycle all cancel
pub cycle_bounds_period : (cycle : List Constraint) (scale : ℕ) (period : ℤ) (arrival : ℕ → ℤ)
    → IsCycle cycle → Satisfies cycle scale period arrival
    → (pos scale *ℤ total_weight cycle) ≤ℤ (period *ℤ pos (total_count cycle))
cycle_bounds_period [] scale period arrival is_cycle satisfied = absurd is_cycle.closed
cycle_bounds_period (first ∷ cycle) scale period arrival is_cycle satisfied =
    let from = first.tail in
    let sum = sum_along scale period arrival from (first ∷ cycle) from is_cycle.closed satisfied in
    omega (arith, ints)

-- and also of a cycle among the constraints that are satisfied
cycle_among_bounds_period : (constraints cycle : List Constraint) (scale : ℕ) (period : ℤ)
    → (arrival : ℕ → ℤ) → All (Contains constraints) cycle → IsCycle cycle
    → Satisfies constraints scale period arrival
    → (pos scale *ℤ total_weight cycle) ≤ℤ (period *ℤ pos (total_count cycle))
cycle_among_bounds_period constraints cycle scale period arrival among is_cycle satisfied =
    let Satisfied = IsSatisfied scale period arrival in
    cycle_bounds_period cycle scale period arrival is_cycle
    (All-weaker (Contains constraints) Satisfied
    (λ constraint contained. All-contains Satisfied constraints constraint satisfied contained)
    cycle among)

-- constraints among which a cycle shows a period are satisfied at no smaller one
pub shown_period_is_least : (constraints cycle : List Constraint) (numerator : ℤ) (denominator : ℕ)
    → (scale : ℕ) (period : ℤ) (arrival : ℕ → ℤ)
    → All (Contains constraints) cycle → ShowsPeriod cycle numerator denominator
    → (period *ℤ pos denominator) <ℤ (numerator *ℤ pos scale)
    → Satisfies constraints scale period arrival → ⊥
shown_period_is_least constraints cycle numerator denominator scale period arrival =
    λ among shows small satisfied.
    let bounded = cycle_among_bounds_period constraints cycle scale period arrival among
    shows.is_cycle satisfied in
    too_small scale denominator (total_count cycle) (total_weight cycle) numerator period
    shows.counts shows.value small bounded

-- and constraints among which one forbids every period are satisfied at none
pub forbidden_at_all : (constraints cycle : List Constraint) (scale : ℕ) (period : ℤ)
    → (arrival : ℕ → ℤ) → All (Contains constraints) cycle → ForbidsPeriods cycle → 1 ≤ scale
    → Satisfies constraints scale period arrival → ⊥
forbidden_at_all constraints cycle scale period arrival among forbids proper satisfied =
    let bounded = cycle_among_bounds_period constraints cycle scale period arrival among
    forbids.is_cycle satisfied in
    asks_for_time scale (total_count cycle) (total_weight cycle) period proper
    forbids.counts forbids.asks bounded
