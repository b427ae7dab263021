-- What the sums of a cycle say of a ratio that is tried: whether it is enough, and the greater
-- value.
use Rattle.critical_cycle.proofs.Vocabulary.{ℕ, ◌≡◌, ◌≤◌, ◌+◌, ◌*◌, ℤ, pos, negsuc, neg_ℤ, ◌*ℤ◌, ◌≤ℤ◌, ◌<ℤ◌, List, refl, ap, arith, zero, suc, of_z, w128, nat_abs, mul-le-mul_left, ints, by_lt_z, Fraction, Constraint, Measure, cycle_count, cycle_weight, most_weight, IsRaisedTo, NeverCounts, up, down}
use Rattle.critical_cycle.proofs.MeasureLemmas.{AreSmallIn}

-- a number of at least 1 is its size
pub size_is : (number : ℤ) → pos 1 ≤ℤ number → pos (nat_abs number) ≡ number
size_is (pos n) some = refl
size_is (negsuc n) some = absurd (omega (arith, ints))

-- what is above 0 in its multiple is above 0
positive : (weight : ℤ) (den : ℕ) → pos 0 <ℤ (weight *ℤ pos den) → pos 0 <ℤ weight
positive weight den above = by_lt_z (pos 0) weight (λ more. more) (λ none.
    let under : up weight ≤ down weight = omega (arith, ints) in
    let less = mul-le-mul_left den under in
    absurd (omega (arith, ints)))

-- the cycle's value is above the trial's
value_above : (num weight value : ℤ) (den size count : ℕ) → 1 ≤ count → 1 ≤ size
    → value *ℤ pos count ≡ weight *ℤ pos size → (pos count *ℤ num) <ℤ (weight *ℤ pos den)
    → (num *ℤ pos size) <ℤ (value *ℤ pos den)
value_above num weight value den size count
    counts some is above = by_lt_z (num *ℤ pos size) (value *ℤ pos den) (λ more. more) (λ less.
    let same : up value * count + down weight * size ≡ down value * count + up weight * size =
    omega (arith, ints) in
    let over : count * up num + down weight * den + 1 ≤ count * down num + up weight * den =
    omega (arith, ints) in
    let under : up value * den + down num * size ≤ down value * den + up num * size =
    omega (arith, ints) in
    let first = ap (λ n. den * n) same in
    let second = mul-le-mul_left size over in
    let third = mul-le-mul_left count under in
    absurd (omega (arith, ints)))

-- the numerator is no larger in size than the weight
numerator_within : (num weight most : ℤ) → nat_abs num ≤ nat_abs weight
    → neg_ℤ most ≤ℤ weight → weight ≤ℤ most → (neg_ℤ most ≤ℤ num) × (num ≤ℤ most)
numerator_within (pos a) (pos w) most smaller above below =
    (omega (arith, ints), omega (arith, ints))
numerator_within (pos a) (negsuc w) most smaller above below =
    (omega (arith, ints), omega (arith, ints))
numerator_within (negsuc a) (pos w) most smaller above below =
    (omega (arith, ints), omega (arith, ints))
numerator_within (negsuc a) (negsuc w) most smaller above below =
    (omega (arith, ints), omega (arith, ints))

module _ (measure : Measure) (ratio : Fraction) (steps : List Constraint) (weight count : ℤ)
    (weighs : weight ≡ cycle_weight measure steps)
    (counts : count ≡ pos (cycle_count measure steps)) where
  -- a cycle that weighs no more than it counts says nothing
  pub no_gain : ((count *ℤ ratio.num) <ℤ (weight *ℤ ratio.den) → ⊥)
      → (ratio.den *ℤ cycle_weight measure steps) ≤ℤ (ratio.num *ℤ pos (cycle_count measure steps))
  no_gain kept = rw (← weighs, ← counts) (at ratio.num ratio.den weight count kept)
    where
      at : (num den w c : ℤ) → ((c *ℤ num) <ℤ (w *ℤ den) → ⊥) → (den *ℤ w) ≤ℤ (num *ℤ c)
      at num den w c within = by_lt_z (num *ℤ c) (den *ℤ w)
          (λ more. absurd (within (swapped num den w c more))) (λ less. less)
        where
          swapped : (num den w c : ℤ) → (num *ℤ c) <ℤ (den *ℤ w) → (c *ℤ num) <ℤ (w *ℤ den)
          swapped num den w c more = omega (arith, ints)

  -- constraints that weigh more and never count weigh more than 0
  pub never_counts : count ≡ pos 0 → (count *ℤ ratio.num) <ℤ (weight *ℤ ratio.den)
      → NeverCounts measure steps
  never_counts none above = record {
    counts = plain (cycle_count measure steps) count counts none;
    weighs = rw weighs at (positive weight (nat_abs ratio.den) (rw (size_is
        ratio.den ratio.lowest.some_den) (over count ratio.num weight ratio.den none above)));
  }
    where
      plain : (k : ℕ) (c : ℤ) → c ≡ pos k → c ≡ pos 0 → k ≡ 0
      plain k c is nothing = omega (arith, ints)

      over : (c num w den : ℤ) → c ≡ pos 0 → (c *ℤ num) <ℤ (w *ℤ den) → pos 0 <ℤ (w *ℤ den)
      over c num w den nothing more = none_less num (w *ℤ den) (rw nothing at more)
        where
          none_less : (a b : ℤ) → (pos 0 *ℤ a) <ℤ b → pos 0 <ℤ b
          none_less a b less = omega (arith, ints)

  -- the value that the sums make is above the ratio
  pub raised : (value : Fraction) → AreSmallIn measure steps → 1 ≤ cycle_count measure steps
      → (count *ℤ ratio.num) <ℤ (weight *ℤ ratio.den) → value.num *ℤ count ≡ weight *ℤ value.den →
      nat_abs value.num ≤ nat_abs weight → value.den ≤ℤ count → IsRaisedTo measure ratio steps value
  raised value small some above is num den =
      let size = size_is value.den value.lowest.some_den in
      let ratio_size = size_is ratio.den ratio.lowest.some_den in
      let total = cycle_weight measure steps in
      let times = cycle_count measure steps in
      let over : (pos times *ℤ ratio.num) <ℤ (total *ℤ pos (nat_abs ratio.den)) =
      rw ratio_size (rw (weighs, counts) at above) in
      let same : value.num *ℤ pos times ≡ total *ℤ pos (nat_abs value.den) =
      rw size (rw (weighs, counts) at is) in
      let higher : (ratio.num *ℤ pos (nat_abs value.den))
      <ℤ (value.num *ℤ pos (nat_abs ratio.den)) =
      value_above ratio.num total value.num (nat_abs ratio.den) (nat_abs value.den) times some
      (omega (arith, ints, size, value.lowest.some_den)) same over in
      let within = numerator_within value.num total (most_weight measure.scale measure.period)
      (rw weighs at num) small.above small.below in
      record {
        counts = some;
        value_is = swapped value.den total value.num (pos times) (rw (weighs, counts) at is);
        above = rw (size, ratio_size) at higher;
        valid = record {
          above = within.0;
          below = within.1;
          proper = value.lowest.some_den;
          low = low value.den times (rw counts at den) small.count;
        };
      }
    where
      swapped : (a b c d : ℤ) → c *ℤ d ≡ b *ℤ a → a *ℤ b ≡ c *ℤ d
      swapped a b c d is = omega (arith, ints)

      low : (den : ℤ) (times : ℕ) → den ≤ℤ pos times → times ≤ 4097 → den ≤ℤ pos 4097
      low den times within few = omega (arith, ints)

-- a count that isn't 0 is at least 1
pub counts_some : (count : ℤ) (times : ℕ) → count ≡ pos times → (of_z w128 count ≡ 0 → ⊥)
    → 1 ≤ times
counts_some count zero is some = absurd (some (ap (of_z w128) is))
counts_some count (suc times) is some = omega arith
