-- Intervals of numbers, each from a least to a greatest number.
use Rattle.std.specs.Prelude.{ℤ, pos, ◌-ℤ◌}
use Rattle.std.specs.Int.{int_max, int_min}

-- how far two intervals are apart, 0 where they meet
abbrev pub between : (lo hi other_lo other_hi : ℤ) → ℤ
between lo hi other_lo other_hi = int_max (int_max (other_lo -ℤ hi) (lo -ℤ other_hi)) (pos 0)

-- the number of an interval that is nearest to a number
abbrev pub clamped : (lo hi to : ℤ) → ℤ
clamped lo hi to = int_max lo (int_min to hi)
