-- How a margin is found: the greatest ratio of a cycle, where each constraint counts once and
-- weighs what it asks for at the period, is the least margin of the cycles, negated.
use Rattle.std.specs.Prelude.{◌≡◌, ◌≤◌, ◌^◌, pos, neg_ℤ, ◌+ℤ◌, ◌*ℤ◌, ◌≤ℤ◌, true, nat_abs}
use Rattle.cts_base.specs.declared.fraction.Fraction.{Fraction}
use Rattle.critical_cycle.specs.declared.measure.Measure.{Measure}

-- constraints weigh what they ask for at the period, and each counts
pub record IsMeasureAt (period : Fraction) (measure : Measure) : Type 0 where
  pub scale_is : measure.scale ≡ period.den
  pub period_is : measure.period ≡ period.num
  pub every_is : measure.every ≡ true

-- a ratio below that of any constraint
pub record IsBelowAll (period ratio : Fraction) : Type 0 where
  pub num_is : ratio.num ≡ neg_ℤ ((period.den *ℤ pos (10 ^ 11)) +ℤ period.num)
  pub den_is : ratio.den ≡ pos 1

-- the margin of a ratio: it negated, over the period's denominator
pub record IsMarginAt (period ratio value : Fraction) : Type 0 where
  pub value_is : value.num *ℤ (ratio.den *ℤ period.den) ≡ neg_ℤ ratio.num *ℤ value.den
  pub num : nat_abs value.num ≤ nat_abs ratio.num
  pub den : value.den ≤ℤ (ratio.den *ℤ period.den)
