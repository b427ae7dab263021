-- No halving is lost: what is a multiple of 8 in places and offsets is a multiple of 4 in reaches
-- and corners.
use Rattle.tilted_rect.proofs.Vocabulary.{◌≡◌, List, ℤ, pos, ◌+ℤ◌, ◌-ℤ◌, int_div, subst, arith, Contains, ints, Sink, IsMultipleOf, apart, span, IsGreatestSpan, IsDoubleReach, Extremes, IsExtremes, AreMultiplesOf, AreSidesMultiples}
use Rattle.tilted_rect.proofs.RectLemmas.{max_either}
use Rattle.cts_model.proofs.PointLemmas.{halves}

-- ---- on plain numbers

-- multiples of 8 stay so in a difference and in a sum
difference_of_eighths : (a b : ℤ) → IsMultipleOf 8 a → IsMultipleOf 8 b → IsMultipleOf 8 (a -ℤ b)
difference_of_eighths a b first second = omega (arith, ints)

sum_of_eighths : (a b : ℤ) → IsMultipleOf 8 a → IsMultipleOf 8 b → IsMultipleOf 8 (a +ℤ b)
sum_of_eighths a b first second = omega (arith, ints)

-- a multiple of 4 less or more than a multiple of 8
less_than_eighths : (a b : ℤ) → IsMultipleOf 8 a → IsMultipleOf 4 b → IsMultipleOf 4 (a -ℤ b)
less_than_eighths a b first second = omega (arith, ints)

more_than_eighths : (a b : ℤ) → IsMultipleOf 8 a → IsMultipleOf 4 b → IsMultipleOf 4 (a +ℤ b)
more_than_eighths a b first second = omega (arith, ints)

-- half of a multiple of 8 is one of 4
half_of_eighths : (half twice : ℤ) → half +ℤ half ≡ twice → IsMultipleOf 8 twice
    → IsMultipleOf 4 half
half_of_eighths half twice is multiple = omega (arith, ints)

even_of_eighths : (twice : ℤ) → IsMultipleOf 8 twice → IsMultipleOf 2 twice
even_of_eighths twice multiple = omega (arith, ints)

-- how far two multiples are apart
apart_of_eighths : (a b : ℤ) → IsMultipleOf 8 a → IsMultipleOf 8 b → IsMultipleOf 8 (apart a b)
apart_of_eighths a b first second = max_either (IsMultipleOf 8) (a -ℤ b) (b -ℤ a)
    (difference_of_eighths a b first second) (difference_of_eighths b a second first)

-- ---- of sinks

span_multiple : (one other : Sink) → (sinks others : List Sink) → AreMultiplesOf 8 sinks
    → AreMultiplesOf 8 others → Contains sinks one → Contains others other
    → IsMultipleOf 8 (span one other)
span_multiple one other sinks others multiples other_multiples among other_among =
    let place = multiples.places one among in
    let other_place = other_multiples.places other other_among in
    sum_of_eighths (one.offset +ℤ other.offset) _
    (sum_of_eighths one.offset other.offset (multiples.offsets one among)
    (other_multiples.offsets other other_among))
    (max_either (IsMultipleOf 8) (apart one.at.u other.at.u) (apart one.at.v other.at.v)
    (apart_of_eighths one.at.u other.at.u place.u other_place.u)
    (apart_of_eighths one.at.v other.at.v place.v other_place.v))

-- the greatest span of two sets
pub greatest_span_is_multiple : (first second : List Sink) (greatest : ℤ) → AreMultiplesOf 8 first
    → AreMultiplesOf 8 second → IsGreatestSpan first second greatest → IsMultipleOf 8 greatest
greatest_span_is_multiple first second greatest multiples others held =
    subst (IsMultipleOf 8) held.shown
    (span_multiple held.one held.other first second multiples others held.one_among
    held.other_among)

-- so the reach is a whole number, and a multiple of 4
pub reach_is_multiple : (sinks : List Sink) (twice : ℤ) → AreMultiplesOf 8 sinks
    → IsDoubleReach sinks twice → (radius : ℤ) × (radius +ℤ radius ≡ twice) × IsMultipleOf 4 radius
reach_is_multiple sinks twice multiples reach =
    let multiple = greatest_span_is_multiple sinks sinks twice multiples multiples reach in
    let half = int_div twice (pos 2) in
    let is : half +ℤ half ≡ twice = halves twice (even_of_eighths twice multiple) in
    (half, is, half_of_eighths half twice is multiple)

-- the extremes are multiples of 8, and the corners of a region multiples of 4
pub corners_are_multiples : (sinks : List Sink) (extremes : Extremes) (radius : ℤ)
    → AreMultiplesOf 8 sinks → IsExtremes sinks extremes → IsMultipleOf 4 radius
    → AreSidesMultiples extremes radius
corners_are_multiples sinks extremes radius multiples held multiple =
    search (arith, less_than_eighths, sum_of_eighths, more_than_eighths, difference_of_eighths)
