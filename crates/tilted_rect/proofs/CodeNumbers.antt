-- What calls on the code's numbers answer, in whole numbers.
use Rattle.tilted_rect.proofs.Vocabulary.{◌≡◌, ℤ, ◌+ℤ◌, ◌-ℤ◌, FitsSigned, ap, ◌∙◌, arith, ints, to_z-of_z, w128, IsBelow, bound, between, clamped}
use mir.Val.{to_z, of_z}

-- a number as the code keeps it
abbrev pub kept : ℤ → ℤ
kept number = to_z w128 (of_z w128 number)

-- of a call with two numbers
pub two_read : (f : ℤ → ℤ → ℤ) (r a b : ℤ) → FitsSigned w128 r → FitsSigned w128 a
    → FitsSigned w128 b → r ≡ f (kept a) (kept b) → kept r ≡ f a b
two_read f r a b fits first second value = to_z-of_z w128 r fits ∙ value
    ∙ ap (λ z. f z (kept b)) (to_z-of_z w128 a first) ∙ ap (f a) (to_z-of_z w128 b second)

-- of a number clamped
pub clamp_read : (r lo hi to : ℤ) → FitsSigned w128 r → FitsSigned w128 lo → FitsSigned w128 hi
    → FitsSigned w128 to → r ≡ clamped (kept lo) (kept hi) (kept to) → kept r ≡ clamped lo hi to
clamp_read r lo hi to fits low high at value = search (arith, to_z-of_z)

-- of how far two intervals are apart
pub between_read : (r lo hi other_lo other_hi : ℤ) → FitsSigned w128 r → FitsSigned w128 lo
    → FitsSigned w128 hi → FitsSigned w128 other_lo → FitsSigned w128 other_hi
    → r ≡ between (kept lo) (kept hi) (kept other_lo) (kept other_hi)
    → kept r ≡ between lo hi other_lo other_hi
between_read r lo hi other_lo other_hi fits low high other_low other_high value =
    search (arith, to_z-of_z)

-- what is below the bound fits the code's numbers
pub below_fits : (at : ℤ) → IsBelow bound at → FitsSigned w128 at
below_fits at below = omega (arith, ints)

-- of a difference, and of a sum
pub difference_read : (a b : ℤ) → FitsSigned w128 a → FitsSigned w128 b → FitsSigned w128 (a -ℤ b)
    → kept (kept a -ℤ kept b) ≡ a -ℤ b
difference_read a b first second fits = ap (λ z. kept (z -ℤ kept b)) (to_z-of_z w128 a first)
    ∙ ap (λ z. kept (a -ℤ z)) (to_z-of_z w128 b second) ∙ to_z-of_z w128 (a -ℤ b) fits

pub sum_read : (a b : ℤ) → FitsSigned w128 a → FitsSigned w128 b → FitsSigned w128 (a +ℤ b)
    → kept (kept a +ℤ kept b) ≡ a +ℤ b
sum_read a b first second fits = ap (λ z. kept (z +ℤ kept b)) (to_z-of_z w128 a first)
    ∙ ap (λ z. kept (a +ℤ z)) (to_z-of_z w128 b second) ∙ to_z-of_z w128 (a +ℤ b) fits
