-- How large the numbers of a tree's grid are, and its sinks one by one.
use Rattle.cts_model.proofs.Vocabulary.{◌≡◌, ◌≤◌, ◌<◌, ◌+◌, ◌*◌, ◌^◌, ℕ, zero, suc, ℤ, pos, ◌-ℤ◌, ◌*ℤ◌, neg_ℤ, to_z, of_z, List, [], ◌∷◌, ◌++◌, length, take, get_or, refl, ap, ◌∙◌, arith, unsigned_abs, w128, ints, unsigned_abs-mul, mul-le, Fraction, Point, Tech, IsBelow, IsPointBelow, grid_of, on_grid, scheduled_length, sink_of, sinks_of, steps_of_micro, IsSmallPeriod}

-- a product is no larger than the product of the sizes
pub product_size : (a b : ℤ) (first second : ℕ) → unsigned_abs a ≤ first
    → unsigned_abs b ≤ second → unsigned_abs (a *ℤ b) ≤ first * second
product_size a b first second small large = omega (
  arith,
  unsigned_abs-mul a b,
  mul-le (unsigned_abs a) (unsigned_abs b) first second small large,
)

module _ (period : Fraction) (tech : Tech) (small : IsSmallPeriod period) where
  -- how many grid steps a micro has
  pub steps_size : unsigned_abs (steps_of_micro period tech) ≤ 32776000000
  steps_size =
      let some = period.lowest.some_den in
      let table = tech.valid in
      product_size (pos 8 *ℤ period.den) tech.wire_num 32776 1000000
      (omega (arith, ints, some, small.low)) (omega (arith, ints, table.wire_num_within))

  -- and a length unit
  pub grid_size : unsigned_abs (grid_of period tech) ≤ 32776000000000000
  grid_size = product_size (pos (10 ^ 6)) (steps_of_micro period tech) 1000000 32776000000
      (omega (arith, ints)) steps_size

  -- a given coordinate
  coordinate_below : (coordinate : ℤ) → IsBelow 1000000000000001 coordinate
      → IsBelow (10 ^ 26) (steps_of_micro period tech *ℤ coordinate)
  coordinate_below coordinate near =
      let size = product_size (steps_of_micro period tech) coordinate 32776000000 1000000000000000
      steps_size (omega (arith, ints, near)) in
      record { above = omega (arith, ints, size); below = omega (arith, ints, size) }

  -- a given point
  pub on_grid_below : (point : Point) → IsPointBelow 1000000000000001 point
      → IsPointBelow (10 ^ 26) (on_grid period tech point)
  on_grid_below point near = record {
    x = coordinate_below point.x near.x;
    y = coordinate_below point.y near.y;
  }

-- an arrival's length
pub scheduled_size : (tech : Tech) (arrival : ℤ) (most : ℕ) → unsigned_abs arrival ≤ most
    → unsigned_abs (scheduled_length tech arrival) ≤ 8000000000000 * most
scheduled_size tech arrival most small =
    let table = tech.valid in
    product_size (pos (8 * 10 ^ 6) *ℤ tech.wire_den) arrival 8000000000000 most
    (omega (arith, ints, table.wire_den_within)) small

-- a number, as the code keeps it
pub number_read : (number : ℤ) → unsigned_abs number ≤ 10 ^ 32
    → to_z w128 (of_z w128 number) ≡ number
number_read number small = omega (arith, ints)

-- minus a number, as the code keeps it
pub neg_read : (number : ℤ) → unsigned_abs number ≤ 10 ^ 32
    → to_z w128 (of_z w128 (pos 0 -ℤ to_z w128 (of_z w128 number))) ≡ neg_ℤ number
neg_read number small = omega (arith, ints)

-- the sink of a register comes after those before
sinks_of_next : (period : Fraction) (tech : Tech) (places : List Point) (arrivals : List ℤ)
    → (register : ℕ) (place : Point) (arrival : ℤ) → register < length places
    → register < length arrivals
    → sinks_of period tech (take (suc register) places) (take (suc register) arrivals)
    ≡ sinks_of period tech (take register places) (take register arrivals)
    ++ sink_of period tech (get_or places register place) (get_or arrivals register arrival) ∷ []
sinks_of_next period tech [] arrivals register place arrival here there = absurd (omega arith)
sinks_of_next period tech (first ∷ places) [] register place arrival here there =
    absurd (omega arith)
sinks_of_next period tech (first ∷ places) (early ∷ arrivals) zero place arrival here there = refl
sinks_of_next period tech (first ∷ places) (early ∷ arrivals) (suc register) place arrival here
    there =
    ap (λ sinks. sink_of period tech first early ∷ sinks)
    (sinks_of_next period tech places arrivals register place arrival (omega arith) (omega arith))

-- one more sink
pub sinks_of_more : (period : Fraction) (tech : Tech) (places : List Point) (arrivals : List ℤ)
    → (register : ℕ) (place : Point) (arrival : ℤ) → register < length places
    → register < length arrivals
    → sinks_of period tech (take (register + 1) places) (take (register + 1) arrivals)
    ≡ sinks_of period tech (take register places) (take register arrivals)
    ++ sink_of period tech (get_or places register place) (get_or arrivals register arrival) ∷ []
sinks_of_more period tech places arrivals register place arrival here there =
    let next : register + 1 ≡ suc register = omega arith in
    ap (λ n. sinks_of period tech (take n places) (take n arrivals)) next
    ∙ sinks_of_next period tech places arrivals register place arrival here there
