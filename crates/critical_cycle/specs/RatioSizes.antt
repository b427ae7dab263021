-- How large the numbers are that a search for the greatest ratio works with.
use Rattle.std.specs.Prelude.{◌*◌, ◌^◌, ℤ, pos, neg_ℤ, ◌+ℤ◌, ◌*ℤ◌, ◌≤ℤ◌, ◌<ℤ◌}

-- a scale from 1 to 10,000, and a period from 0 on, below 10^15
pub record IsMeasure (scale period : ℤ) : Type 0 where
  pub some : pos 1 ≤ℤ scale
  pub fine : scale ≤ℤ pos (10 ^ 4)
  pub from_zero : pos 0 ≤ℤ period
  pub short : period <ℤ pos (10 ^ 15)

-- the most that 4,097 weights below 100,000,000,000 in size sum to, each times the scale and less
-- the period
abbrev pub most_weight : (scale period : ℤ) → ℤ
most_weight scale period = (scale *ℤ pos (4097 * 10 ^ 11)) +ℤ (period *ℤ pos 4097)

-- a ratio of such a sum to at most 4,097
pub record IsSmallRatio (scale period numerator denominator : ℤ) : Type 0 where
  pub above : neg_ℤ (most_weight scale period) ≤ℤ numerator
  pub below : numerator ≤ℤ most_weight scale period
  pub proper : pos 1 ≤ℤ denominator
  pub low : denominator ≤ℤ pos 4097
