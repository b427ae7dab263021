-- Products of small numbers, and that the code's are the same.
use Rattle.critical_cycle.proofs.Vocabulary.{◌≡◌, ◌≤◌, ◌^◌, ℤ, ◌-ℤ◌, ◌*ℤ◌, FitsSigned, arith, ints, unsigned_abs-mul, mul-le, unsigned_abs, IsBelow, below_size, kept, product_read, size_within}
use Rattle.std.specs.Int.{w128}

-- a product of small numbers is small
pub product_small : (a b : ℤ) → IsBelow (2 ^ 63) a → IsBelow (2 ^ 63) b → IsBelow (2 ^ 126) (a *ℤ b)
product_small a b first second =
    let one : unsigned_abs a ≤ 9223372036854775807 = size_within
    9223372036854775807 a (omega (arith, ints, first.above)) (omega (arith, ints, first.below)) in
    let other : unsigned_abs b ≤ 9223372036854775807 = size_within
    9223372036854775807 b (omega (arith, ints, second.above)) (omega (arith, ints, second.below)) in
    let size : unsigned_abs (a *ℤ b) ≤ 85070591730234615847396907784232501249 = omega (
      arith,
      unsigned_abs-mul a b,
      mul-le (unsigned_abs a) (unsigned_abs b) 9223372036854775807 9223372036854775807 one other,
    ) in
    below_size 85070591730234615847396907784232501249 (2 ^ 126) (a *ℤ b) size (omega arith)

-- it fits
pub product_fits : (a b : ℤ) → IsBelow (2 ^ 63) a → IsBelow (2 ^ 63) b → FitsSigned w128 (a *ℤ b)
product_fits a b first second =
    let small = product_small a b first second in
    fits (a *ℤ b) small
  where
    fits : (z : ℤ) → IsBelow (2 ^ 126) z → FitsSigned w128 z
    fits z small = omega (arith, ints, small.above, small.below)

-- the code's product of small numbers
pub small_product_read : (a b : ℤ) → IsBelow (2 ^ 63) a → IsBelow (2 ^ 63) b
    → kept a *ℤ kept b ≡ a *ℤ b
small_product_read a b first second = product_read a b (omega
    (arith, ints, first.above, first.below)) (omega (arith, ints, second.above, second.below))

-- the code's difference of two products fits
pub products_fit : (a b : ℤ) → IsBelow (2 ^ 126) a → IsBelow (2 ^ 126) b
    → FitsSigned w128 (kept a -ℤ kept b)
products_fit a b first second =
    omega (arith, ints, first.above, first.below, second.above, second.below)

-- and is the difference
pub products_read : (a b : ℤ) → IsBelow (2 ^ 126) a → IsBelow (2 ^ 126) b
    → kept (kept a -ℤ kept b) ≡ a -ℤ b
products_read a b first second =
    omega (arith, ints, first.above, first.below, second.above, second.below)
