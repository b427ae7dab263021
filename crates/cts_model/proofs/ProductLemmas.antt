-- The size of a product.
use Rattle.cts_model.proofs.Vocabulary.{◌≡◌, ◌≤◌, ◌*◌, ◌^◌, ℕ, ℤ, pos, negsuc, ◌*ℤ◌, neg_ℤ, ◌≤ℤ◌, FitsSigned, to_z, of_z, arith, w128, ints, to_z-of_z, unsigned_abs-mul, mul-le, unsigned_abs, IsBelow}

-- a number lies within its size
within_size : (size : ℕ) (number : ℤ) → unsigned_abs number ≤ size → (neg_ℤ (pos size) ≤ℤ number)
    × (number ≤ℤ pos size)
within_size size (pos n) small = (omega (arith, ints), omega (arith, ints))
within_size size (negsuc n) small = (omega (arith, ints), omega (arith, ints))

-- the size of a number below a bound
size_below : (bound : ℕ) (number : ℤ) → IsBelow bound number → unsigned_abs number ≤ bound
size_below bound (pos n) small = omega (arith, ints, small.below)
size_below bound (negsuc n) small = omega (arith, ints, small.above)

-- a product of two small numbers is small
pub product_small : (a b : ℤ) → IsBelow (10 ^ 20) a → IsBelow (10 ^ 16) b
    → IsBelow (10 ^ 37) (a *ℤ b)
product_small a b small_a small_b =
    let size : unsigned_abs (a *ℤ b) ≤ 10 ^ 20 * 10 ^ 16 =
    omega (
      arith,
      unsigned_abs-mul a b,
      mul-le (unsigned_abs a) (unsigned_abs b) (10 ^ 20) (10 ^ 16)
          (size_below (10 ^ 20) a small_a) (size_below (10 ^ 16) b small_b),
    ) in
    let both = within_size (10 ^ 20 * 10 ^ 16) (a *ℤ b) size in
    record { above = omega (arith, ints, both.0); below = omega (arith, ints, both.1) }

-- so it is kept as it is
pub product_kept : (a b : ℤ) → IsBelow (10 ^ 20) a → IsBelow (10 ^ 16) b → FitsSigned w128 a
    → FitsSigned w128 b
    → to_z w128 (of_z w128 (to_z w128 (of_z w128 a) *ℤ to_z w128 (of_z w128 b))) ≡ a *ℤ b
product_kept a b small_a small_b fits_a fits_b =
    let small = product_small a b small_a small_b in
    rw (to_z-of_z w128 a fits_a, to_z-of_z w128 b fits_b)
    (to_z-of_z w128 (a *ℤ b) (omega (arith, ints, small.above, small.below)))
