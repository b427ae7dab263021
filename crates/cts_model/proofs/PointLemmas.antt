-- Distances of points, in plain and in rotated coordinates, and halves.
use Rattle.cts_model.proofs.Vocabulary.{◌≡◌, ℤ, pos, negsuc, ◌+ℤ◌, ◌-ℤ◌, ◌≤ℤ◌, int_div, ap, ◌∙◌, arith, ints, clamps, int_max, Point, Uv, IsMultipleOf, apart, distance, rotated, rotated_distance}

-- the sum of two differences is the greater of the two rotated ones
pub apart-rotated : (x y x' y' : ℤ)
    → apart x x' +ℤ apart y y' ≡ int_max (apart (x +ℤ y) (x' +ℤ y')) (apart (x -ℤ y) (x' -ℤ y'))
apart-rotated x y x' y' = omega (arith, ints, clamps)

-- a sum of two values, each known by an equation
pub sum_of_values : {z r s p q : ℤ} → r ≡ p → s ≡ q → z ≡ r +ℤ s → z ≡ p +ℤ q
sum_of_values first second sum = cc

-- how far two numbers are apart, where a third is on the way
apart_by_way : (a b c : ℤ) → apart a c ≤ℤ (apart a b +ℤ apart b c)
apart_by_way a b c = omega (arith, ints, clamps)

-- no way is shorter than the distance
pub distance_by_way : (a b c : Point) → distance a c ≤ℤ (distance a b +ℤ distance b c)
distance_by_way a b c =
    let x = apart_by_way a.x b.x c.x in
    let y = apart_by_way a.y b.y c.y in
    omega (arith, ints, x, y)

-- two numbers are as far apart in either order
apart_either : (a b : ℤ) → apart a b ≡ apart b a
apart_either a b = omega (arith, ints, clamps)

-- and so are two points
pub distance_either : (a b : Point) → distance a b ≡ distance b a
distance_either a b = ap (λ z. z +ℤ apart a.y b.y) (apart_either a.x b.x)
    ∙ ap (λ z. apart b.x a.x +ℤ z) (apart_either a.y b.y)

-- no two numbers are less than nothing apart
apart_from_zero : (a b : ℤ) → pos 0 ≤ℤ apart a b
apart_from_zero a b = omega (arith, ints, clamps)

-- nor two points
pub distance_from_zero : (a b : Point) → pos 0 ≤ℤ distance a b
distance_from_zero a b =
    let x = apart_from_zero a.x b.x in
    let y = apart_from_zero a.y b.y in
    omega (arith, ints, x, y)

-- a number is nothing apart from itself
apart-itself : (a : ℤ) → apart a a ≡ pos 0
apart-itself a = omega (arith, ints, clamps)

-- and so is a point
pub distance-itself : (a : Point) → distance a a ≡ pos 0
distance-itself a =
    let x = apart-itself a.x in
    let y = apart-itself a.y in
    omega (arith, ints, x, y)

-- the distance by the rotated points
pub distance-rotated : (a b : Point) → distance a b ≡ rotated_distance (rotated a) (rotated b)
distance-rotated a b = apart-rotated a.x a.y b.x b.y

-- rotated points are the same where their coordinates are
pub same_uv : {a b : Uv} → a.u ≡ b.u → a.v ≡ b.v → a ≡ b
same_uv u v = λ i. record { u = u i; v = v i }

-- two halves of an even number
pub halves : (sum : ℤ) → IsMultipleOf 2 sum → int_div sum (pos 2) +ℤ int_div sum (pos 2) ≡ sum
halves (pos n) even = omega (arith, ints)
halves (negsuc n) even = omega (arith, ints)
