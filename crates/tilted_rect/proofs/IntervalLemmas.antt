-- Intervals on one axis, and numbers taken over a scale: the smaller of two, and what is clamped
-- into an interval or between two.
use Rattle.tilted_rect.proofs.Vocabulary.{◌≡◌, ℕ, ℤ, pos, ◌+ℤ◌, ◌-ℤ◌, ◌*ℤ◌, ◌≤ℤ◌, ◌<ℤ◌, ap, ◌∙◌, arith, ints, clamps, by_lt_z, int_max, int_min, apart, scale_le, scale-max, scale-sub, between, clamped}
use Rattle.std.proofs.Math.IntN.{*ℤ-zero}

-- a number clamped into an interval is in it
pub clamped_ge : (lo hi to : ℤ) → lo ≤ℤ clamped lo hi to
clamped_ge lo hi to = omega (arith, ints, clamps)

pub clamped_le : (lo hi to : ℤ) → lo ≤ℤ hi → clamped lo hi to ≤ℤ hi
clamped_le lo hi to ordered = omega (arith, ints, clamps)

-- from a number in the grown interval it is no further than the interval was grown
pub clamped_near : (lo hi by at : ℤ) → lo ≤ℤ hi → pos 0 ≤ℤ by → (lo -ℤ by) ≤ℤ at → at ≤ℤ (hi +ℤ by)
    → apart (clamped lo hi at) at ≤ℤ by
clamped_near lo hi by at ordered least above below = omega (arith, ints, clamps)

-- a number no further than that from one in the interval is in the grown one
pub near_ge : (lo by from at : ℤ) → lo ≤ℤ from → apart from at ≤ℤ by → (lo -ℤ by) ≤ℤ at
near_ge lo by from at above near = omega (arith, ints, clamps)

pub near_le : (hi by from at : ℤ) → from ≤ℤ hi → apart from at ≤ℤ by → at ≤ℤ (hi +ℤ by)
near_le hi by from at below near = omega (arith, ints, clamps)

-- a clamped number is the nearest one of the interval
pub clamped_least : (lo hi to at : ℤ) → lo ≤ℤ at → at ≤ℤ hi
    → apart to (clamped lo hi to) ≤ℤ apart to at
clamped_least lo hi to at above below = omega (arith, ints, clamps)

-- numbers of two intervals are no closer than the intervals
pub between_least : (lo hi other_lo other_hi from to : ℤ) → lo ≤ℤ from → from ≤ℤ hi → other_lo ≤ℤ to
    → to ≤ℤ other_hi → between lo hi other_lo other_hi ≤ℤ apart from to
between_least lo hi other_lo other_hi from to above below other_above other_below =
    omega (arith, ints, clamps)

-- and two are as close
pub between_shown : (lo hi other_lo other_hi : ℤ) → lo ≤ℤ hi → other_lo ≤ℤ other_hi
    → apart (clamped lo hi other_lo) (clamped other_lo other_hi (clamped lo hi other_lo))
    ≡ between lo hi other_lo other_hi
between_shown lo hi other_lo other_hi ordered other_ordered = omega (arith, ints, clamps)

-- intervals without a common number are apart
pub between_above : (lo hi other_lo other_hi : ℤ) → lo ≤ℤ hi → other_lo ≤ℤ other_hi
    → int_min hi other_hi <ℤ int_max lo other_lo → pos 0 <ℤ between lo hi other_lo other_hi
between_above lo hi other_lo other_hi ordered other_ordered crossed = omega (arith, ints, clamps)

-- and others are not
pub between_none : (lo hi other_lo other_hi : ℤ) → int_max lo other_lo ≤ℤ int_min hi other_hi
    → between lo hi other_lo other_hi ≤ℤ pos 0
between_none lo hi other_lo other_hi common = omega (arith, ints, clamps)

-- the greater of two numbers
pub max_le : (a b c : ℤ) → a ≤ℤ c → b ≤ℤ c → int_max a b ≤ℤ c
max_le a b c first second = omega (arith, ints, clamps)

pub le_max_left : (a b c : ℤ) → int_max a b ≤ℤ c → a ≤ℤ c
le_max_left a b c both = omega (arith, ints, clamps)

pub le_max_right : (a b c : ℤ) → int_max a b ≤ℤ c → b ≤ℤ c
le_max_right a b c both = omega (arith, ints, clamps)

pub max_mono : (a b c d : ℤ) → a ≤ℤ c → b ≤ℤ d → int_max a b ≤ℤ int_max c d
max_mono a b c d first second = omega (arith, ints, clamps)

pub above_left : (a b : ℤ) → pos 0 <ℤ a → pos 0 <ℤ int_max a b
above_left a b above = omega (arith, ints, clamps)

pub above_right : (a b : ℤ) → pos 0 <ℤ b → pos 0 <ℤ int_max a b
above_right a b above = omega (arith, ints, clamps)

-- the smaller of two numbers
pub le_min : (a b c : ℤ) → c ≤ℤ a → c ≤ℤ b → c ≤ℤ int_min a b
le_min a b c first second = omega (arith, ints, clamps)

pub min_le_left : (a b c : ℤ) → c ≤ℤ int_min a b → c ≤ℤ a
min_le_left a b c both = omega (arith, ints, clamps)

pub min_le_right : (a b c : ℤ) → c ≤ℤ int_min a b → c ≤ℤ b
min_le_right a b c both = omega (arith, ints, clamps)

-- ---- over a scale

min_left : (a b : ℤ) → a ≤ℤ b → int_min a b ≡ a
min_left a b below = omega (arith, ints, clamps)

min_right : (a b : ℤ) → b ≤ℤ a → int_min a b ≡ b
min_right a b below = omega (arith, ints, clamps)

-- a scale goes into the smaller of two numbers
pub scale-min : (scale : ℕ) (a b : ℤ)
    → pos scale *ℤ int_min a b ≡ int_min (pos scale *ℤ a) (pos scale *ℤ b)
scale-min scale a b = search (arith, by_lt_z, ints, min_left, scale_le, min_right)

-- into a number clamped into an interval
pub scale-clamped : (scale : ℕ) (lo hi to : ℤ)
    → pos scale *ℤ clamped lo hi to ≡ clamped (pos scale *ℤ lo) (pos scale *ℤ hi) (pos scale *ℤ to)
scale-clamped scale lo hi to = scale-max scale lo (int_min to hi)
    ∙ ap (λ z. int_max (pos scale *ℤ lo) z) (scale-min scale to hi)

-- and into how far two intervals are apart
pub scale-between : (scale : ℕ) (lo hi other_lo other_hi : ℤ)
    → pos scale *ℤ between lo hi other_lo other_hi
    ≡ between (pos scale *ℤ lo) (pos scale *ℤ hi) (pos scale *ℤ other_lo) (pos scale *ℤ other_hi)
scale-between scale lo hi other_lo other_hi =
    scale-max scale (int_max (other_lo -ℤ hi) (lo -ℤ other_hi)) (pos 0)
    ∙ ap (λ z. int_max (pos scale *ℤ int_max (other_lo -ℤ hi) (lo -ℤ other_hi)) z)
    (*ℤ-zero (pos scale))
    ∙ ap (λ z. int_max z (pos 0))
    (scale-max scale (other_lo -ℤ hi) (lo -ℤ other_hi)
    ∙ ap (λ z. int_max z (pos scale *ℤ (lo -ℤ other_hi))) (scale-sub scale other_lo hi)
    ∙ ap (λ z. int_max (pos scale *ℤ other_lo -ℤ pos scale *ℤ hi) z) (scale-sub scale lo other_hi))
