-- The floor of the least period, in ticks.
use Rattle.std.specs.Prelude.{◌^◌, ℤ, pos, ◌≤ℤ◌}

-- a floor from 0 to 1,000,000,000 ticks
pub record IsSmallFloor (floor : ℤ) : Type 0 where
  pub positive : pos 0 ≤ℤ floor
  pub small : floor ≤ℤ pos (10 ^ 9)
