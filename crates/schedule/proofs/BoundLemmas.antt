-- The least arrivals are low, since some low ones satisfy the constraints.
use Rattle.schedule.proofs.Vocabulary.{ℕ, zero, suc, ◌≡◌, ◌<◌, ◌≤◌, ◌+◌, ◌-◌, ◌*◌, ◌^◌, ℤ, pos, negsuc, ◌+ℤ◌, ◌-ℤ◌, ◌*ℤ◌, ◌≤ℤ◌, Bool, true, false, cond, List, All, length, get_or, inl, inr, sym, subst, refl, arith, nat_abs, cases_eq, ints, get_or_default, Fraction, Constraint, IsBelow, AreSmallConstraints, IsSmallConstraint, arrival_of, AreFromZero, IsSmallPeriod, Gains, SatisfiesGains, gain_of, AreGainsOf, AreLeastBy, AreWithinWeights, CanSchedule, IsRising, gain_small}
use Rattle.std.proofs.lemmas.Nat.{mul-le}
use Rattle.std.proofs.Math.Nat.{mul-add, mul-le-mul_left}
use borrow.Author.Differences.{up, down}
use Rattle.schedule.proofs.Levels.{lowered, lowered_low, lowered_keeps}

-- the size of a number is at least the number
size_above : (z : ℤ) (n : ℕ) → nat_abs z ≤ n → pos 0 ≤ℤ (z +ℤ pos n)
size_above (pos m) n small = omega (arith, ints)
size_above (negsuc m) n small = omega (arith, ints)

-- a number from 0 on is its size
pub size_same : (z : ℤ) → pos 0 ≤ℤ z → pos (nat_abs z) ≡ z
size_same (pos m) from = refl
size_same (negsuc m) from = absurd (omega (arith, ints))

-- what every one of so many arrivals can be shifted up by to come to 0 or above
abbrev lift : (arrival : ℕ → ℤ) (registers : ℕ) → ℕ
lift arrival zero = 0
lift arrival (suc registers) = lift arrival registers + nat_abs (arrival registers)

-- none is larger
within_lift : (arrival : ℕ → ℤ) (registers register : ℕ) → register < registers
    → nat_abs (arrival register) ≤ lift arrival registers
within_lift arrival zero register within = absurd (omega arith)
within_lift arrival (suc registers) register within = elim (cases_eq register registers) [
  | inl same ↦ subst (λ r. nat_abs (arrival r) ≤ lift arrival (suc registers)) (sym same)
      (omega arith)
  | inr apart ↦ omega (arith, within_lift arrival registers register (omega arith))
]

-- what is met is met where both arrivals are shifted
gain_from : (from to gain shift : ℤ) → (from +ℤ (pos 1 *ℤ gain)) ≤ℤ to
    → ((from +ℤ shift) +ℤ gain) ≤ℤ (to +ℤ shift)
gain_from from to gain shift met = omega (arith, ints)

-- and taken once
gain_once : (from to gain : ℤ) → (from +ℤ gain) ≤ℤ to → (from +ℤ (pos 1 *ℤ gain)) ≤ℤ to
gain_once from to gain met = omega (arith, ints)

-- what is no greater stays so when it is scaled
scaled_most : (scale weight : ℕ) (w : ℤ) → w ≤ℤ pos weight
    → (pos scale *ℤ w) ≤ℤ pos (scale * weight)
scaled_most scale weight w low =
    let plain : up w ≤ weight + down w = omega (arith, ints) in
    omega (arith, ints, mul-le-mul_left scale plain, mul-add scale weight (down w))

-- a gain is no greater where time is taken off
gain_most : (asked due most : ℤ) → asked ≤ℤ most → pos 0 ≤ℤ due → (asked -ℤ due) ≤ℤ most
gain_most asked due most low from = omega (arith, ints)

-- a number once
pub once_is : (a : ℤ) → a ≡ a *ℤ pos 1
once_is a = omega (arith, ints)

-- what is no later once than another, and that than a bound, isn't past the bound
no_later : (a b c : ℤ) → (pos 1 *ℤ a) ≤ℤ b → b ≤ℤ c → a ≤ℤ c
no_later a b c first second = omega (arith, ints, is_once)
  where
    is_once : pos 1 *ℤ a ≡ a
    is_once = omega (arith, ints)

module _ (constraints : List Constraint) (gains : Gains) (most : ℕ) (at : List ℤ)
    (arrival : ℕ → ℤ) (small : AreSmallConstraints (length at) constraints)
    (low : All (λ (constraint : Constraint). gain_of gains constraint ≤ℤ pos most) constraints)
    (satisfied : SatisfiesGains constraints gains 1 arrival) where
  -- the arrivals shifted up
  abbrev shifted : ℕ → ℤ
  shifted register = arrival register +ℤ pos (lift arrival (length at))

  -- as levels
  abbrev level : ℕ → ℕ
  level register = nat_abs (shifted register)

  -- and moved together
  abbrev low_arrival : ℕ → ℤ
  low_arrival register = pos (lowered level most (length at) (level register))

  -- a level is the arrival that is shifted
  level_is : (register : ℕ) → register < length at → pos (level register) ≡ shifted register
  level_is register within = size_same (shifted register) (size_above (arrival register)
      (lift arrival (length at)) (within_lift arrival (length at) register within))

  -- they satisfy the constraints still
  low_satisfied : SatisfiesGains constraints gains 1 low_arrival
  low_satisfied place default within =
      let it : Constraint = get_or constraints place default in
      let is_small : IsSmallConstraint (length at) it = small.each place default within in
      let gain : ℤ = gain_of gains it in
      let met = gain_from (arrival it.tail) (arrival it.head) gain
      (pos (lift arrival (length at))) (satisfied place default within) in
      let on_levels : (pos (level it.tail) +ℤ gain) ≤ℤ pos (level it.head)
      = subst (λ z. (z +ℤ gain) ≤ℤ pos (level it.head)) (sym (level_is it.tail is_small.tail))
      (subst (λ z. (shifted it.tail +ℤ gain) ≤ℤ z) (sym (level_is it.head is_small.head)) met) in
      gain_once (low_arrival it.tail) (low_arrival it.head) gain (lowered_keeps level
      most (length at) it.tail it.head gain is_small.tail (low place default within) on_levels)

  -- they are from 0 on
  low_from_zero : AreFromZero (length at) low_arrival
  low_from_zero register within = omega (arith, ints)

  -- and low
  low_bound : (register : ℕ) → register < length at
      → low_arrival register ≤ℤ pos ((length at - 1) * most)
  low_bound register within =
      let others : suc (length at - 1) ≡ length at = omega arith in
      let bound : lowered level most (suc (length at - 1)) (level register)
      ≤ (length at - 1) * most =
      lowered_low level most (length at - 1) register (omega arith) in
      as_numbers
      _ _ (subst (λ n. lowered level most n (level register) ≤ (length at - 1) * most) others bound)
    where
      as_numbers : (a b : ℕ) → a ≤ b → pos a ≤ℤ pos b
      as_numbers a b below = omega (arith, ints)

  -- so those that are the least are low
  pub least_low : AreLeastBy constraints gains at → (register : ℕ) → register < length at
      → arrival_of at register ≤ℤ pos ((length at - 1) * most)
  least_low least register within = no_later (arrival_of at register)
      (low_arrival register) (pos ((length at - 1) * most)) (least 1 low_arrival
      (omega arith) low_from_zero low_satisfied register within) (low_bound register within)

-- where no weight is above this one, no gain at a period is above the scale times it
gains_within : (constraints : List Constraint) (period : Fraction) (gains : Gains) (weight : ℕ)
    → AreGainsOf period gains → IsSmallPeriod period → All (λ (constraint : Constraint).
    constraint.weight ≤ℤ pos weight) constraints → All (λ (constraint : Constraint).
    gain_of gains constraint ≤ℤ pos (nat_abs period.den * weight)) constraints
gains_within constraints period gains weight are range low place default within =
    let it : Constraint = get_or constraints place default in
    let scale = size_same period.den (omega (arith, ints, period.lowest.some_den)) in
    let most : (period.den *ℤ it.weight) ≤ℤ pos (nat_abs period.den * weight) =
    subst (λ z. (z *ℤ it.weight) ≤ℤ pos (nat_abs period.den * weight)) scale
    (scaled_most (nat_abs period.den) weight it.weight (low place default within)) in
    rw (are.scale_is, are.setup_is, are.hold_is)
    (gain_most (period.den *ℤ it.weight) (cond it.setup period.num (pos 0)) _ most (at it.setup))
  where
    at : (setup : Bool) → pos 0 ≤ℤ cond setup period.num (pos 0)
    at true = range.from_zero
    at false = omega (arith, ints)

-- arrivals that are the least at a period are within the weights
pub AreWithinWeights-least : (constraints : List Constraint) (period : Fraction) (gains : Gains)
    (at : List ℤ) → AreGainsOf period gains → IsSmallPeriod period
    → CanSchedule constraints gains (length at) → AreLeastBy constraints gains at
    → AreWithinWeights constraints (nat_abs period.den) at
AreWithinWeights-least constraints period gains at are range can least weight low register within =
    least_low constraints gains (nat_abs period.den * weight) at can.admitted.0 can.small
    (gains_within constraints period gains weight are range low) can.admitted.1 least register
    within

-- what is from 0 on and no greater than a number below the limit is small
below_limit : (limit : ℕ) (a : ℤ) (n : ℕ) → pos 0 ≤ℤ a → a ≤ℤ pos n → n < limit → IsBelow limit a
below_limit limit a n from high few =
    record { above = omega (arith, ints); below = omega (arith, ints) }

-- arrivals from 0 on that are within the weights of small constraints are small
pub small_within : (constraints : List Constraint) (period : Fraction) (at : List ℤ) (limit : ℕ)
    → 4096 * (4097 * 100000000000) < limit → AreSmallConstraints (length at) constraints
    → IsSmallPeriod period → AreFromZero (length at) (arrival_of at)
    → AreWithinWeights constraints (nat_abs period.den) at → All (IsBelow limit) at
small_within constraints period at limit enough small range from_zero bound place default within =
    subst (IsBelow limit) (get_or_default at place (pos 0) default within)
    (below_limit limit (arrival_of at place) _ (from_zero place within)
    (bound 100000000000 low place within) (omega (arith, size, enough)))
  where
    -- no weight is above 10^11
    low : All (λ (constraint : Constraint). constraint.weight ≤ℤ pos 100000000000) constraints
    low constraint_place nothing inside =
        let it = (small.each constraint_place nothing inside).weight in
        omega (arith, ints, it.below)

    -- the denominator's size
    scale_low : (den : ℤ) → den ≤ℤ pos 4097 → pos 1 ≤ℤ den → nat_abs den ≤ 4097
    scale_low (pos n) high proper = omega (arith, ints)
    scale_low (negsuc n) high proper = absurd (omega (arith, ints))

    -- how large the bound is
    size : (length at - 1) * (nat_abs period.den * 100000000000) ≤ 4096 * (4097 * 100000000000)
    size = mul-le (length at - 1) (nat_abs period.den * 100000000000) 4096 (4097 * 100000000000)
        (omega (arith, small.not_many)) (mul-le (nat_abs period.den) 100000000000
        4097 100000000000 (scale_low period.den range.low period.lowest.some_den) (omega arith))

-- arrivals that are rising are small, as gains are
pub small_rising : (constraints : List Constraint) (gains : Gains) (at : List ℤ) → CanSchedule
    constraints gains (length at) → IsRising constraints gains at → All (IsBelow (2 ^ 93)) at
small_rising constraints gains at can rising place default within =
    subst (IsBelow (2 ^ 93)) (get_or_default at place (pos 0) default within) (below_limit (2 ^ 93)
    (arrival_of at place) _ (rising.from_zero place within) (least_low constraints gains (2 ^ 80)
    at can.admitted.0 can.small low can.admitted.1 rising.least place within) (omega (arith, size)))
  where
    -- no gain is above 2^80
    low : All (λ (constraint : Constraint). gain_of gains constraint ≤ℤ pos (2 ^ 80)) constraints
    low constraint_place nothing inside = under (gain_of
        gains (get_or constraints constraint_place nothing)) (gain_small gains (get_or constraints
        constraint_place nothing) (can.small.each constraint_place nothing inside).weight)
      where
        under : (gain : ℤ) → IsBelow (2 ^ 80) gain → gain ≤ℤ pos (2 ^ 80)
        under gain it = omega (arith, ints, it.below)

    -- how large the bound is
    size : (length at - 1) * 2 ^ 80 ≤ 4096 * 2 ^ 80
    size = mul-le (length at - 1) (2 ^ 80) 4096 (2 ^ 80) (omega (arith, can.small.not_many))
        (omega arith)
