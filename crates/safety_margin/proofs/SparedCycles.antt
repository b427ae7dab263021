-- The sum of constraints that spare a margin round a cycle.
use Rattle.safety_margin.proofs.Vocabulary.{◌≡◌, ℕ, suc, ◌+◌, ◌*◌, ◌≤◌, ℤ, pos, neg_ℤ, ◌+ℤ◌, ◌-ℤ◌, ◌*ℤ◌, ◌≤ℤ◌, List, [], ◌∷◌, length, ap, arith, mul-le-mul_left, ints, by_lt_z, All-head, All-tail, All-weaker, All-contains, Constraint, count_of, Leads, IsCycle, total_weight, total_count, Spares, SparesOne, up, down}
use Rattle.std.specs.List.{All, Contains}
use Rattle.std.proofs.lemmas.List.Sums.{sum_by-cons}

-- what a constraint asks of its tail and its head, and others of its head and of where they lead,
-- they ask together of its tail and of where they lead
spared_together : (scale count counts total many : ℕ)
    (period margin weight weights from tail head to : ℤ) → tail ≡ from → total ≡ count + counts
    → (tail +ℤ ((pos scale *ℤ weight) +ℤ margin)) ≤ℤ (head +ℤ (period *ℤ pos count))
    → (head +ℤ ((pos scale *ℤ weights) +ℤ (margin *ℤ pos many))) ≤ℤ (to +ℤ (period *ℤ pos counts))
    → (from +ℤ ((pos scale *ℤ (weight +ℤ weights)) +ℤ (margin *ℤ pos (suc many))))
    ≤ℤ (to +ℤ (period *ℤ pos total))
spared_together scale count counts total many period margin weight weights from tail head to same
    sum one rest =
    let plain : up (weight +ℤ weights) + down weight + down weights
    ≡ down (weight +ℤ weights) + up weight + up weights = omega (arith, ints) in
    let later = ap (λ n. up period * n) sum in
    let sooner = ap (λ n. down period * n) sum in
    omega (arith, ints, ap (λ n. scale * n) plain)

module _ (scale : ℕ) (period margin : ℤ) (arrival : ℕ → ℤ) where
  -- where constraints lead from one register to another, the arrivals between the two cancel
  spared_along : (from : ℕ) (constraints : List Constraint) (to : ℕ) → Leads from constraints to
      → Spares constraints scale period margin arrival
      → (arrival from +ℤ ((pos scale *ℤ total_weight constraints)
      +ℤ (margin *ℤ pos (length constraints))))
      ≤ℤ (arrival to +ℤ (period *ℤ pos (total_count constraints)))
  spared_along from [] to same spares =
      let level : arrival from ≡ arrival to = ap arrival same in
      omega (arith, ints)
  spared_along from (constraint ∷ constraints) to (tail, leads) spares =
      let One = SparesOne scale period margin arrival in
      let rest = All-tail One constraint constraints spares in
      spared_together scale (count_of constraint) (total_count constraints)
      (total_count (constraint ∷ constraints)) (length constraints) period margin
      constraint.weight (total_weight constraints) (arrival from) (arrival constraint.tail)
      (arrival constraint.head) (arrival to) (ap arrival tail)
      (sum_by-cons count_of constraint constraints) (All-head One constraint constraints spares)
      (spared_along constraint.head constraints to leads rest)

  -- so round a cycle all cancel
  cycle_spares : (cycle : List Constraint) → IsCycle cycle
      → Spares cycle scale period margin arrival
      → ((pos scale *ℤ total_weight cycle) +ℤ (margin *ℤ pos (length cycle)))
      ≤ℤ (period *ℤ pos (total_count cycle))
  cycle_spares [] is_cycle spares = absurd is_cycle.closed
  cycle_spares (first ∷ cycle) is_cycle spares =
      let from = first.tail in
      let sum = spared_along from (first ∷ cycle) from is_cycle.closed spares in
      omega (arith, ints)

  -- and also of a cycle among the constraints
  pub cycle_among_spares : (constraints cycle : List Constraint)
      → All (Contains constraints) cycle → IsCycle cycle
      → Spares constraints scale period margin arrival
      → ((pos scale *ℤ total_weight cycle) +ℤ (margin *ℤ pos (length cycle)))
      ≤ℤ (period *ℤ pos (total_count cycle))
  cycle_among_spares constraints cycle among is_cycle spares =
      let One = SparesOne scale period margin arrival in
      cycle_spares cycle is_cycle
      (All-weaker (Contains constraints) One
      (λ constraint contained. All-contains One constraints constraint spares contained)
      cycle among)

-- what is spared round a cycle is no more than its ratio leaves
pub no_more_spared : (m n k b q : ℕ) (p g w a x : ℤ) → 1 ≤ n
    → ((pos m *ℤ w) +ℤ (g *ℤ pos n)) ≤ℤ (p *ℤ pos k)
    → pos b *ℤ ((pos q *ℤ w) -ℤ (x *ℤ pos k)) ≡ a *ℤ pos n
    → p *ℤ pos q ≡ x *ℤ pos m → (g *ℤ pos (b * q)) ≤ℤ (neg_ℤ a *ℤ pos m)
no_more_spared m n k b q p g w a x some sum ratio period =
    by_lt_z (neg_ℤ a *ℤ pos m) (g *ℤ pos (b * q))
    (λ more.
    let sum_plain : m * up w + n * up g + k * down p ≤ m * down w + n * down g + k * up p =
    omega (arith, ints) in
    let period_plain : q * up p + m * down x ≡ q * down p + m * up x = omega (arith, ints) in
    let inner = (pos q *ℤ w) -ℤ (x *ℤ pos k) in
    let inner_plain : up inner + q * down w + k * up x ≡ down inner + q * up w + k * down x =
    omega (arith, ints) in
    let ratio_plain : b * up inner + n * down a ≡ b * down inner + n * up a =
    omega (arith, ints) in
    let over = ap (λ i. b * i) inner_plain in
    let whole : b * q * up w + b * k * down x + n * down a
    ≡ b * q * down w + b * k * up x + n * up a = omega arith in
    let less_a = neg_ℤ a in
    let less_plain : up less_a + up a ≡ down less_a + down a = omega (arith, ints) in
    let more_plain : m * down a + b * q * down g + 1 ≤ m * up a + b * q * up g =
    omega (arith, ints, ap (λ i. m * i) less_plain) in
    absurd (omega (
      arith,
      mul-le-mul_left (b * q) sum_plain,
      ap (λ i. b * k * i) period_plain,
      ap (λ i. m * i) whole,
      mul-le-mul_left n more_plain,
    )))
    (λ less. less)

-- and so no more than the margin
pub no_more_margin : (m d t : ℕ) (g a v : ℤ) → 1 ≤ t → v *ℤ pos t ≡ neg_ℤ a *ℤ pos d
    → (g *ℤ pos t) ≤ℤ (neg_ℤ a *ℤ pos m) → (g *ℤ pos d) ≤ℤ (v *ℤ pos m)
no_more_margin m d t g a v some value within =
    by_lt_z (v *ℤ pos m) (g *ℤ pos d)
    (λ more.
    let less_a = neg_ℤ a in
    let less_plain : up less_a + up a ≡ down less_a + down a = omega (arith, ints) in
    let value_plain : t * up v + d * up a ≡ t * down v + d * down a =
    omega (arith, ints, ap (λ i. d * i) less_plain) in
    let within_plain : t * up g + m * up a ≤ t * down g + m * down a =
    omega (arith, ints, ap (λ i. m * i) less_plain) in
    let more_plain : m * up v + d * down g + 1 ≤ m * down v + d * up g = omega (arith, ints) in
    absurd (omega (
      arith,
      ap (λ i. m * i) value_plain,
      mul-le-mul_left d within_plain,
      mul-le-mul_left t more_plain,
    )))
    (λ less. less)

-- numbers that are the same that many times
same_times : (t : ℕ) (x y : ℤ) → 1 ≤ t → pos t *ℤ x ≡ pos t *ℤ y → x ≤ℤ y
same_times t x y some same = search (arith, by_lt_z, ints, mul-le-mul_left)

-- are the same
pub times_same : (t : ℕ) (x y : ℤ) → 1 ≤ t → pos t *ℤ x ≡ pos t *ℤ y → x ≡ y
times_same t x y some same =
    let low = same_times t x y some same in
    let high = same_times t y x some (back (pos t *ℤ x) (pos t *ℤ y) same) in
    both x y low high
  where
    back : (a b : ℤ) → a ≡ b → b ≡ a
    back a b is = omega (arith, ints)

    both : (a b : ℤ) → a ≤ℤ b → b ≤ℤ a → a ≡ b
    both a b low high = omega (arith, ints)

-- the cycle's ratio says what it spares
pub ratio_spares : (n k b q d : ℕ) (w a x v : ℤ) → 1 ≤ b
    → pos b *ℤ ((pos q *ℤ w) -ℤ (x *ℤ pos k)) ≡ a *ℤ pos n → v *ℤ pos (b * q) ≡ neg_ℤ a *ℤ pos d
    → pos d *ℤ ((x *ℤ pos k) -ℤ (pos q *ℤ w)) ≡ v *ℤ pos (q * n)
ratio_spares n k b q d w a x v some ratio value =
    times_same b (pos d *ℤ ((x *ℤ pos k) -ℤ (pos q *ℤ w))) (v *ℤ pos (q * n)) some
    (let inner = (pos q *ℤ w) -ℤ (x *ℤ pos k) in
    let inner_plain : up inner + q * down w + k * up x ≡ down inner + q * up w + k * down x =
    omega (arith, ints) in
    let ratio_plain : b * up inner + n * down a ≡ b * down inner + n * up a =
    omega (arith, ints) in
    let over = ap (λ i. b * i) inner_plain in
    let whole : b * q * up w + b * k * down x + n * down a
    ≡ b * q * down w + b * k * up x + n * up a = omega arith in
    let turned = (x *ℤ pos k) -ℤ (pos q *ℤ w) in
    let turned_plain : up turned + q * up w + k * down x ≡ down turned + q * down w + k * up x =
    omega (arith, ints) in
    let left = pos d *ℤ turned in
    let left_plain : up left + d * down turned ≡ down left + d * up turned =
    omega (arith, ints) in
    let less_a = neg_ℤ a in
    let less_plain : up less_a + up a ≡ down less_a + down a = omega (arith, ints) in
    let value_plain : b * q * up v + d * up a ≡ b * q * down v + d * down a =
    omega (arith, ints, ap (λ i. d * i) less_plain) in
    let right = v *ℤ pos (q * n) in
    let right_plain : up right + q * n * down v ≡ down right + q * n * up v =
    omega (arith, ints) in
    omega (
      arith,
      ints,
      ap (λ i. b * i) left_plain,
      ap (λ i. b * d * i) turned_plain,
      ap (λ i. d * i) whole,
      ap (λ i. n * i) value_plain,
      ap (λ i. b * i) right_plain,
    ))
