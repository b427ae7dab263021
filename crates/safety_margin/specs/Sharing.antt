-- The gains of constraints at a period where each is to spare a margin, over the least common
-- multiple of the two denominators.
use Rattle.std.specs.Prelude.{◌≡◌, ◌≤◌, ◌*◌, ◌^◌, ℕ, ℤ, pos, neg_ℤ, ◌-ℤ◌, ◌*ℤ◌, ◌≤ℤ◌, List, nat_abs}
use Rattle.cts_base.specs.declared.fraction.Fraction.{Fraction}
use Rattle.cts_model.specs.declared.constraint.Constraint.{Constraint}
use Rattle.relaxation.specs.declared.gains.Gains.{Gains}
use Rattle.safety_margin.specs.Margins.{IsOver, Spares}

-- a value whose numerator is below 10^19 in size and whose denominator is at most 40,970,000
pub record IsSmallMargin (value : Fraction) : Type 0 where
  pub small : nat_abs value.num ≤ 10 ^ 19
  pub fine : value.den ≤ℤ pos (4097 * 10 ^ 4)

-- some arrivals spare the value at the period, at some scale
pub record CanSpare (constraints : List Constraint) (period value : Fraction) : Type 0 where
  pub scale : ℕ
  pub some : 1 ≤ scale
  pub number : ℤ
  pub number_is : IsOver period scale number
  pub margin : ℤ
  pub margin_is : IsOver value scale margin
  pub arrival : ℕ → ℤ
  pub spares : Spares constraints scale number margin arrival

-- the share is the period's denominator over the value's
pub record IsShare (period value share : Fraction) : Type 0 where
  pub same : share.num *ℤ value.den ≡ period.den *ℤ share.den
  pub num : nat_abs share.num ≤ nat_abs period.den
  pub den : share.den ≤ℤ value.den

-- weights are taken as often as the multiple is, the period and the margin over it
pub record AreGainsAt (period value share : Fraction) (gains : Gains) : Type 0 where
  pub scale_is : gains.scale ≡ period.den *ℤ share.den
  pub setup_is : gains.setup ≡ (period.num *ℤ share.den)
      -ℤ (value.num *ℤ share.num)
  pub hold_is : gains.hold ≡ neg_ℤ (value.num *ℤ share.num)
