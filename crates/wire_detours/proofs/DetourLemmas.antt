-- What the code's numbers say of a detour: half of what a length is beyond a distance.
use Rattle.wire_detours.proofs.Vocabulary.{◌≡◌, ◌^◌, ℤ, pos, ◌+ℤ◌, ◌-ℤ◌, ◌≤ℤ◌, ◌<ℤ◌, FitsSigned, arith, ints, IsBelow, IsMultipleOf, distance, Point}
use Rattle.std.specs.Int.{w128}
use Rattle.wire_detours.proofs.PieceLemmas.{apart_least}
use mir.Val.{to_z, of_z}

-- a number as the code keeps it
abbrev pub kept : ℤ → ℤ
kept number = to_z w128 (of_z w128 number)

-- no distance is less than nothing
pub distance_least : (from to : Point) → pos 0 ≤ℤ distance from to
distance_least from to =
    let x = apart_least from.x to.x in
    let y = apart_least from.y to.y in
    omega (arith, ints, x, y)

-- the detour is half of what the length is beyond the distance
pub record IsHalfBeyond (far long detour : ℤ) : Type 0 where
  pub twice : far +ℤ detour +ℤ detour ≡ long
  pub positive : pos 0 ≤ℤ detour
  pub short : IsBelow (10 ^ 33) detour

-- half of a short detour is short
pub side_short : (far long detour side : ℤ) → IsHalfBeyond far long detour
    → side +ℤ side ≡ kept detour → IsBelow (10 ^ 33) (kept side)
side_short far long detour side is halves = record {
  above = omega (arith, ints);
  below = omega (arith, ints);
}

-- of a distance that the code read, and a length that is enough
module _ (from to : Point) (long read : ℤ) (is : read ≡ distance from to)
    (enough : distance from to ≤ℤ long) (below : long <ℤ pos (10 ^ 32)) where
  -- what is beyond fits the code's numbers
  pub beyond_fits : FitsSigned w128 (kept long -ℤ kept read)
  beyond_fits = let least = distance_least from to in omega (arith, ints)

  -- between two multiples of 4 there is an even number
  pub beyond_even : IsMultipleOf 4 long → IsMultipleOf 4 (distance from to)
      → IsMultipleOf 2 (kept (kept long -ℤ kept read))
  beyond_even multiple far_multiple = let least = distance_least from to in omega (arith, ints)

  -- half of it is the detour
  pub half_beyond : (half : ℤ) → half +ℤ half ≡ kept (kept long -ℤ kept read)
      → IsHalfBeyond (distance from to) long (kept half)
  half_beyond half halves =
      let least = distance_least from to in
      record {
        twice = omega (arith, ints);
        positive = omega (arith, ints);
        short = record {
          above = omega (arith, ints);
          below = omega (arith, ints);
        };
      }
