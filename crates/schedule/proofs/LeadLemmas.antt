-- Where tight constraints reach no further, the least arrivals are all reached: else those that
-- aren't could all be lowered.
use Rattle.schedule.proofs.Vocabulary.{Arrivals, ◌≡◌, ◌<◌, ◌≤◌, ◌*◌, ℕ, zero, suc, ℤ, pos, negsuc, ◌+ℤ◌, ◌-ℤ◌, ◌*ℤ◌, ◌≤ℤ◌, Bool, true, false, cond, Contains, length, get_or, subst, sym, refl, arith, true≢false, nat_abs, ints, Constraint, Satisfies, count_of, Reach, arrival_of, AreFromZero, IsLeastScheduleOf, EachLead, depth_of, lead_at, IsReached, IsWhole}
use Rattle.schedule.proofs.BoundLemmas.{once_is, size_same}

-- a number from 0 on that is 0 only where the flag is set, lowered where it isn't
lowered_from_zero : (flag : Bool) (z : ℤ) → pos 0 ≤ℤ z → (z ≡ pos 0 → flag ≡ true)
    → pos 0 ≤ℤ (z -ℤ pos (cond flag 0 1))
lowered_from_zero true z from zero_set = omega (arith, ints)
lowered_from_zero false (pos zero) from zero_set = absurd (true≢false (sym (zero_set refl)))
lowered_from_zero false (pos (suc n)) from zero_set = omega (arith, ints)
lowered_from_zero false (negsuc n) from zero_set = absurd (omega (arith, ints))

-- what is met and isn't tight is met by 1 more
room_left : (from to asked due gap : ℤ) → gap ≡ (to +ℤ due) -ℤ (from +ℤ asked) → (from +ℤ asked)
    ≤ℤ (to +ℤ due) → (to -ℤ from ≡ asked -ℤ due → ⊥) → (from +ℤ asked) ≤ℤ ((to -ℤ pos 1) +ℤ due)
room_left from to asked due (pos zero) gap_is met loose = absurd (loose (omega (arith, ints)))
room_left from to asked due (pos (suc n)) gap_is met loose = omega (arith, ints)
room_left from to asked due (negsuc n) gap_is met loose = absurd (omega (arith, ints))

-- what is met stays so when those without a flag are lowered, where a flag is handed on if tight
lowered_met : (tail head : Bool) (from to asked due : ℤ) → (from +ℤ asked) ≤ℤ (to +ℤ due)
    → (tail ≡ true → to -ℤ from ≡ asked -ℤ due → head ≡ true)
    → ((from -ℤ pos (cond tail 0 1)) +ℤ asked) ≤ℤ ((to -ℤ pos (cond head 0 1)) +ℤ due)
lowered_met true true from to asked due met handed = omega (arith, ints)
lowered_met false true from to asked due met handed = omega (arith, ints)
lowered_met false false from to asked due met handed = omega (arith, ints)
lowered_met true false from to asked due met handed =
    let room = room_left from to asked due ((to +ℤ due) -ℤ (from +ℤ asked)) refl met
    (λ tight. true≢false (sym (handed refl tight))) in omega (arith, ints, room)

-- what can't be lowered has its flag
flag_set : (flag : Bool) (z : ℤ) → (pos 1 *ℤ z) ≤ℤ (z -ℤ pos (cond flag 0 1)) → flag ≡ true
flag_set true z low = refl
flag_set false z low = absurd (omega (arith, ints, is_once))
  where
    is_once : pos 1 *ℤ z ≡ z
    is_once = omega (arith, ints)

module _ {arrivals : Arrivals} {reach : Reach} (whole : IsWhole arrivals reach)
    (least : IsLeastScheduleOf arrivals.constraints.now arrivals.period.num
    (nat_abs arrivals.period.den) arrivals.at.now) where
  -- whether a register is reached
  abbrev flag : ℕ → Bool
  flag register = get_or reach.reached.items register false

  -- the arrivals, lowered by 1 where they aren't reached
  abbrev lowered : ℕ → ℤ
  lowered register = arrival_of arrivals.at.now register -ℤ pos (cond (flag register) 0 1)

  -- they are from 0 on
  all_from_zero : AreFromZero (length arrivals.at.now) lowered
  all_from_zero register within = lowered_from_zero (flag register)
      (arrival_of arrivals.at.now register)
      (least.from_zero register within) (whole.reaching.zeros register within)

  -- the denominator is its size
  den_is : pos (nat_abs arrivals.period.den) ≡ arrivals.period.den
  den_is = size_same arrivals.period.den (omega (arith, ints, arrivals.period.lowest.some_den))

  -- they satisfy the constraints
  all_met : Satisfies arrivals.constraints.now (nat_abs arrivals.period.den) arrivals.period.num
      lowered
  all_met place default within =
      let it : Constraint = get_or arrivals.constraints.now place default in
      lowered_met (flag it.tail) (flag it.head) (arrival_of arrivals.at.now it.tail)
      (arrival_of arrivals.at.now it.head)
      (pos (nat_abs arrivals.period.den) *ℤ it.weight) (arrivals.period.num *ℤ pos (count_of it))
      (least.satisfies place default within) (λ reached tight. whole.handed place
      default within reached default (subst
      (λ z. arrival_of arrivals.at.now it.head -ℤ arrival_of arrivals.at.now it.tail
      ≡ (z *ℤ it.weight) -ℤ (arrivals.period.num *ℤ pos (count_of it))) den_is tight))

  -- at the same scale, taken once
  all_met_once : Satisfies arrivals.constraints.now (nat_abs arrivals.period.den * 1)
      (arrivals.period.num *ℤ pos 1) lowered
  all_met_once = subst (λ n. Satisfies arrivals.constraints.now n (arrivals.period.num *ℤ pos 1)
      lowered)
      (omega arith) (subst (λ (z : ℤ). Satisfies arrivals.constraints.now
      (nat_abs arrivals.period.den) z lowered)
      (once_is arrivals.period.num) all_met)

  -- so each is reached
  all_reached : (register : ℕ) → register < length arrivals.at.now → IsReached reach register
  all_reached register within = flag_set (flag register) (arrival_of arrivals.at.now register)
      (least.least 1 lowered (omega arith) all_from_zero all_met_once register within)

  -- and has its lead
  pub EachLead-whole : EachLead (Contains arrivals.constraints.now) arrivals.period arrivals.at.now
      reach.leads.items
  EachLead-whole register within = whole.reaching.led register (all_reached register within)

  -- which takes no more constraints than there are registers
  pub low_depth : (register : ℕ) → depth_of (lead_at reach.leads.items register) ≤ length
      arrivals.at.now
  low_depth register = omega (arith, whole.reaching.low register, whole.reaching.room)
