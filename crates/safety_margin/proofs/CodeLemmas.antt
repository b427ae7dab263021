-- The code's numbers.
use Rattle.safety_margin.proofs.Vocabulary.{◌≡◌, ◌≤◌, ◌*◌, ◌^◌, ◌∙◌, ℕ, ℤ, pos, negsuc, neg_ℤ, ◌*ℤ◌, ◌≤ℤ◌, FitsSigned, ap, arith, ints, to_z-of_z, unsigned_abs-mul, mul-le, w128, unsigned_abs, IsBelow}
use mir.Val.{to_z, of_z}

-- a number as the code keeps it
abbrev pub kept : ℤ → ℤ
kept number = to_z w128 (of_z w128 number)

-- the size of a number that lies within
size_within : (size : ℕ) (number : ℤ) → neg_ℤ (pos size) ≤ℤ number → number ≤ℤ pos size
    → unsigned_abs number ≤ size
size_within size (pos n) low high = omega (arith, ints)
size_within size (negsuc n) low high = omega (arith, ints)

-- a number lies within its size
below_size : (number : ℤ) → unsigned_abs number ≤ 2 ^ 64 * 2 ^ 40 → IsBelow (2 ^ 105) number
below_size (pos n) small = record { above = omega (arith, ints); below = omega (arith, ints) }
below_size (negsuc n) small = record { above = omega (arith, ints); below = omega (arith, ints) }

module _ (a b : ℤ) (a_small : IsBelow (2 ^ 64) a) (b_small : IsBelow (2 ^ 40) b) where
  -- a product of small numbers is small
  pub product_small : IsBelow (2 ^ 105) (a *ℤ b)
  product_small =
      let first : unsigned_abs a ≤ 2 ^ 64 =
      size_within (2 ^ 64) a (omega (arith, ints, a_small.above))
      (omega (arith, ints, a_small.below)) in
      let second : unsigned_abs b ≤ 2 ^ 40 =
      size_within (2 ^ 40) b (omega (arith, ints, b_small.above))
      (omega (arith, ints, b_small.below)) in
      below_size (a *ℤ b)
      (omega (
        arith,
        unsigned_abs-mul a b,
        mul-le (unsigned_abs a) (unsigned_abs b) (2 ^ 64) (2 ^ 40) first second,
      ))

  -- it is the code's
  pub product_read : kept (kept a *ℤ kept b) ≡ a *ℤ b
  product_read =
      ap kept (ap (λ z. z *ℤ kept b)
      (to_z-of_z w128 a (omega (arith, ints, a_small.above, a_small.below)))
      ∙ ap (λ z. a *ℤ z) (to_z-of_z w128 b (omega (arith, ints, b_small.above, b_small.below))))
      ∙ to_z-of_z w128 (a *ℤ b) (fits (a *ℤ b) product_small)
    where
      fits : (z : ℤ) → IsBelow (2 ^ 105) z → FitsSigned w128 z
      fits z small = omega (arith, ints, small.above, small.below)
