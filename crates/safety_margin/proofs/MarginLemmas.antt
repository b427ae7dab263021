-- What the greatest ratio says of the margin.
use Rattle.safety_margin.proofs.Vocabulary.{◌≡◌, ℕ, ◌+◌, ◌*◌, ◌≤◌, ◌^◌, ◌∙◌, ℤ, pos, negsuc, neg_ℤ, ◌+ℤ◌, ◌-ℤ◌, ◌*ℤ◌, ◌≤ℤ◌, ◌<ℤ◌, List, [], ◌∷◌, length, get_or, All, Contains, sym, ap, subst, arith, nat_abs, mul-le-mul_left, pos-*ℤ-pos, ints, mul-le, Fraction, Constraint, count_of, total_count, total_weight, size_same, Measure, SatisfiesRatio, ShowsRatio, IsSmallRatio, ShowsMargin, Spares, SparesNoMore, IsMarginPeriod, IsMarginAt, IsMeasureAt, CanSpare, IsSmallMargin, up, down}
use Rattle.safety_margin.proofs.SparedCycles.{cycle_among_spares, no_more_margin, no_more_spared, ratio_spares}

-- a denominator is its size
pub den_is : (fraction : Fraction) → pos (nat_abs fraction.den) ≡ fraction.den
den_is fraction = size_same fraction.den (from fraction.den fraction.lowest.some_den)
  where
    from : (z : ℤ) → pos 1 ≤ℤ z → pos 0 ≤ℤ z
    from z some = omega (arith, ints)

-- and at least 1
pub den_some : (fraction : Fraction) → 1 ≤ nat_abs fraction.den
den_some fraction = at fraction.den (nat_abs fraction.den) (den_is fraction)
    fraction.lowest.some_den
  where
    at : (z : ℤ) (n : ℕ) → pos n ≡ z → pos 1 ≤ℤ z → 1 ≤ n
    at z n is some = omega (arith, ints)

module _ {period ratio value : Fraction} {measure : Measure} (at : IsMeasureAt period measure)
    (margin_at : IsMarginAt period ratio value) where
  -- the product of the two denominators
  dens_are : pos (nat_abs ratio.den * nat_abs period.den) ≡ ratio.den *ℤ period.den
  dens_are = search (arith, den_is)

  -- the value over it
  value_over : value.num *ℤ pos (nat_abs ratio.den * nat_abs period.den)
      ≡ neg_ℤ ratio.num *ℤ pos (nat_abs value.den)
  value_over = ap (λ w. value.num *ℤ w) dens_are ∙ margin_at.value_is
      ∙ ap (λ w. neg_ℤ ratio.num *ℤ w) (sym (den_is value))

  -- what a cycle that shows the ratio weighs
  cycle_ratio : (cycle : List Constraint) → ShowsRatio measure cycle ratio
      → pos (nat_abs ratio.den) *ℤ ((pos (nat_abs period.den) *ℤ total_weight cycle)
      -ℤ (period.num *ℤ pos (total_count cycle))) ≡ ratio.num *ℤ pos (length cycle)
  cycle_ratio cycle shows = rw (den_is ratio, den_is period)
      (rw (at.scale_is, at.period_is, at.every_is) at shows.value)

  -- it has a constraint
  cycle_some : (cycle : List Constraint) → ShowsRatio measure cycle ratio → 1 ≤ length cycle
  cycle_some [] shows = absurd shows.is_cycle.closed
  cycle_some (step ∷ steps) shows = omega arith

  -- no arrivals spare more than what the cycle leaves
  pub no_more : (constraints cycle : List Constraint) → All (Contains constraints) cycle
      → ShowsRatio measure cycle ratio → SparesNoMore (Spares constraints) period value
  no_more constraints cycle among shows scale number margin arrival some number_is spares =
      let sum = cycle_among_spares scale number margin arrival constraints cycle among
      shows.is_cycle spares in
      let over : number *ℤ pos (nat_abs period.den) ≡ period.num *ℤ pos scale =
      rw (den_is period) number_is in
      let within = no_more_spared scale (length cycle) (total_count cycle) (nat_abs ratio.den)
      (nat_abs period.den) number margin (total_weight cycle) ratio.num period.num
      (cycle_some cycle shows) sum (cycle_ratio cycle shows) over in
      rw (den_is value) at (no_more_margin scale (nat_abs value.den)
      (nat_abs ratio.den * nat_abs period.den) margin ratio.num value.num
      (some_product (nat_abs ratio.den) (nat_abs period.den) (den_some ratio) (den_some period))
      value_over within)
    where
      some_product : (a b : ℕ) → 1 ≤ a → 1 ≤ b → 1 ≤ a * b
      some_product a b first second = omega (arith, mul-le-mul_left a second)

  -- and the cycle spares just this
  pub shows_margin : (cycle : List Constraint) → ShowsRatio measure cycle ratio
      → ShowsMargin cycle period value
  shows_margin cycle shows = record {
    is_cycle = shows.is_cycle;
    spares = (rw (den_is value, den_is period) at (ratio_spares (length cycle) (total_count cycle)
        (nat_abs ratio.den) (nat_abs period.den) (nat_abs value.den) (total_weight cycle)
        ratio.num period.num value.num (den_some ratio) (cycle_ratio cycle shows) value_over))
        ∙ ap (λ w. value.num *ℤ w) (sym (pos-*ℤ-pos (nat_abs period.den) (length cycle))
        ∙ ap (λ w. w *ℤ pos (length cycle)) (den_is period));
  }

  -- arrivals that satisfy the list at the ratio spare the value
  pub can_spare : (constraints : List Constraint)
      → (arrival : ℕ → ℤ) × SatisfiesRatio measure constraints ratio arrival
      → CanSpare constraints period value
  can_spare constraints satisfied = record {
    scale = nat_abs ratio.den * nat_abs period.den;
    some = some_product (nat_abs ratio.den) (nat_abs period.den) (den_some ratio)
        (den_some period);
    number = pos (nat_abs ratio.den) *ℤ period.num;
    number_is = subst (λ z. (pos (nat_abs ratio.den) *ℤ period.num) *ℤ z
        ≡ period.num *ℤ pos (nat_abs ratio.den * nat_abs period.den)) (den_is period)
        (turned (nat_abs ratio.den) (nat_abs period.den) period.num);
    margin = neg_ℤ ratio.num;
    margin_is = sym (rw (den_is value) at value_over);
    arrival = satisfied.0;
    spares = spares;
  }
    where
      some_product : (a b : ℕ) → 1 ≤ a → 1 ≤ b → 1 ≤ a * b
      some_product a b first second = omega (arith, mul-le-mul_left a second)

      turned : (b q : ℕ) (x : ℤ) → (pos b *ℤ x) *ℤ pos q ≡ x *ℤ pos (b * q)
      turned b q x =
          let inner : up (pos b *ℤ x) + b * down x ≡ down (pos b *ℤ x) + b * up x =
          omega (arith, ints) in
          omega (arith, ints, ap (λ n. q * n) inner)

      each : (b q k : ℕ) (w x a from to : ℤ)
          → (from +ℤ (pos b *ℤ ((pos q *ℤ w) -ℤ (x *ℤ pos k)))) ≤ℤ (to +ℤ (a *ℤ pos 1))
          → (from +ℤ ((pos (b * q) *ℤ w) +ℤ neg_ℤ a)) ≤ℤ (to +ℤ ((pos b *ℤ x) *ℤ pos k))
      each b q k w x a from to met =
          let inner = (pos q *ℤ w) -ℤ (x *ℤ pos k) in
          let inner_plain : up inner + q * down w + k * up x ≡ down inner + q * up w + k * down x =
          omega (arith, ints) in
          let due : up (pos b *ℤ x) + b * down x ≡ down (pos b *ℤ x) + b * up x =
          omega (arith, ints) in
          omega (arith, ints, ap (λ n. b * n) inner_plain, ap (λ n. k * n) due)

      spares : Spares constraints (nat_abs ratio.den * nat_abs period.den)
          (pos (nat_abs ratio.den) *ℤ period.num) (neg_ℤ ratio.num) satisfied.0
      spares place default within =
          let it : Constraint = get_or constraints place default in
          each (nat_abs ratio.den) (nat_abs period.den) (count_of it) it.weight period.num
          ratio.num (satisfied.0 it.tail) (satisfied.0 it.head)
          (rw (den_is ratio, den_is period) (rw (at.scale_is, at.period_is, at.every_is) at
          (satisfied.1 place default within)))

-- a margin is small
pub margin_small : (period ratio value : Fraction) → IsMarginPeriod period
    → IsSmallRatio period.den period.num ratio.num ratio.den → IsMarginAt period ratio value
    → IsSmallMargin value
margin_small period ratio value range small at = record {
  small = size ratio.num (nat_abs value.num) at.num
      (over period.den period.num ratio.num period.lowest.some_den range.fine range.from_zero
      range.short small.above small.below).0
      (over period.den period.num ratio.num period.lowest.some_den range.fine range.from_zero
      range.short small.above small.below).1;
  fine = fine (nat_abs ratio.den) (nat_abs period.den) value.den
      (low (nat_abs ratio.den) ratio.den (den_is ratio) small.low)
      (few (nat_abs period.den) period.den (den_is period) range.fine)
      (subst (λ w. value.den ≤ℤ w) (sym (ap (λ w. w *ℤ pos (nat_abs period.den)) (den_is ratio)
      ∙ ap (λ w. ratio.den *ℤ w) (den_is period))) at.den);
}
  where
    over : (q p a : ℤ) → pos 1 ≤ℤ q → q ≤ℤ pos (10 ^ 4) → pos 0 ≤ℤ p → p <ℤ pos (10 ^ 15)
        → neg_ℤ ((q *ℤ pos (4097 * 10 ^ 11)) +ℤ (p *ℤ pos 4097)) ≤ℤ a
        → a ≤ℤ ((q *ℤ pos (4097 * 10 ^ 11)) +ℤ (p *ℤ pos 4097))
        → (neg_ℤ (pos (10 ^ 19)) ≤ℤ a) × (a ≤ℤ pos (10 ^ 19))
    over q p a some fine from_zero short above below = (omega (arith, ints), omega (arith, ints))

    size : (a : ℤ) (n : ℕ) → n ≤ nat_abs a → neg_ℤ (pos (10 ^ 19)) ≤ℤ a → a ≤ℤ pos (10 ^ 19)
        → n ≤ 10 ^ 19
    size (pos a) n within above below = omega (arith, ints)
    size (negsuc a) n within above below = omega (arith, ints)

    low : (n : ℕ) (z : ℤ) → pos n ≡ z → z ≤ℤ pos 4097 → n ≤ 4097
    low n z is within = omega (arith, ints)

    few : (n : ℕ) (z : ℤ) → pos n ≡ z → z ≤ℤ pos (10 ^ 4) → n ≤ 10000
    few n z is within = omega (arith, ints)

    fine : (b q : ℕ) (d : ℤ) → b ≤ 4097 → q ≤ 10000 → d ≤ℤ (pos b *ℤ pos q)
        → d ≤ℤ pos (4097 * 10 ^ 4)
    fine b q d first second within = omega (arith, ints, mul-le b q 4097 10000 first second)
