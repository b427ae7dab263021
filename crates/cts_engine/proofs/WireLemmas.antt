-- How far drawn wires go, and how long they are together.
use Rattle.cts_engine.proofs.Vocabulary.{◌≡◌, ◌<◌, ◌-◌, ◌*◌, ◌^◌, ℕ, zero, suc, ℤ, pos, ◌+ℤ◌, ◌≤ℤ◌, ◌<ℤ◌, List, [], ◌∷◌, length, get_or, subst, arith, All, ints, clamps, get_or_from_slice_get, Point, IsBelow, IsPointBelow, distance, distance_by_way, distance-itself}
use Rattle.cts_model.specs.Vocabulary.{IsDrawn, pieces, total}

-- ---- points of a wire

-- the way to a point of a wire and on to its end is no longer than the wire
way_through : (first : Point) (more : List Point) (place : ℕ) (default : Point)
    → place < length (first ∷ more) → (distance first (get_or (first ∷ more) place default)
    +ℤ distance (get_or (first ∷ more) place default)
    (get_or (first ∷ more) (length more) default)) ≤ℤ total (pieces (first ∷ more))
way_through first [] zero default here =
    let none = distance-itself first in
    omega (arith, ints)
way_through first [] (suc place) default here = absurd (omega arith)
way_through first (second ∷ more) zero default here =
    let none = distance-itself first in
    let rest = way_through second more zero default (omega arith) in
    let nothing = distance-itself second in
    let way = distance_by_way first second (get_or (second ∷ more) (length more) default) in
    omega (arith, ints)
way_through first (second ∷ more) (suc place) default here =
    let rest = way_through second more place default (omega arith) in
    let way = distance_by_way first second (get_or (second ∷ more) place default) in
    omega (arith, ints)

-- a number that is near to two others isn't much larger
between_below : (a b c way back long : ℤ) → IsBelow (5 * 10 ^ 31) a → IsBelow (5 * 10 ^ 31) b
    → (c ≤ℤ (a +ℤ way)) → (a ≤ℤ (c +ℤ way)) → (c ≤ℤ (b +ℤ back)) → (b ≤ℤ (c +ℤ back))
    → (way +ℤ back) ≤ℤ long → long <ℤ pos (10 ^ 32) → IsBelow (10 ^ 32) c
between_below a b c way back long from to up down on off sum short = search (arith, ints)

-- a coordinate is as near as the point
x_near : (a b : Point) → (b.x ≤ℤ (a.x +ℤ distance a b)) × (a.x ≤ℤ (b.x +ℤ distance a b))
x_near a b = (omega (arith, ints, clamps), omega (arith, ints, clamps))

y_near : (a b : Point) → (b.y ≤ℤ (a.y +ℤ distance a b)) × (a.y ≤ℤ (b.y +ℤ distance a b))
y_near a b = (omega (arith, ints, clamps), omega (arith, ints, clamps))

-- a point on the way from one to another
corner_below : (from to corner : Point) (long : ℤ) → IsPointBelow (5 * 10 ^ 31) from
    → IsPointBelow (5 * 10 ^ 31) to
    → (distance from corner +ℤ distance corner to) ≤ℤ long → long <ℤ pos (10 ^ 32)
    → IsPointBelow (10 ^ 32) corner
corner_below from to corner long from_below to_below sum short =
    let x = x_near from corner in
    let x' = x_near corner to in
    let y = y_near from corner in
    let y' = y_near corner to in
    record {
      x = between_below from.x to.x corner.x (distance from corner) (distance corner to) long
          from_below.x to_below.x x.0 x.1 x'.1 x'.0 sum short;
      y = between_below from.y to.y corner.y (distance from corner) (distance corner to) long
          from_below.y to_below.y y.0 y.1 y'.1 y'.0 sum short;
    }

-- the points of a wire
pub drawn_below : (from to : Point) (long : ℤ) (points : List Point)
    → IsDrawn from to long points → IsPointBelow (5 * 10 ^ 31) from
    → IsPointBelow (5 * 10 ^ 31) to → long <ℤ pos (10 ^ 32) → All (IsPointBelow (10 ^ 32)) points
drawn_below from to long [] drawn from_below to_below short place default here =
    absurd (omega (arith, here))
drawn_below from to long (first ∷ more) drawn from_below to_below short place default here =
    let corner = get_or (first ∷ more) place default in
    let begins = get_or_from_slice_get (first ∷ more) 0 from default drawn.begins in
    let last : length (first ∷ more) - 1 ≡ length more = omega arith in
    let ends = subst (λ n. get_or (first ∷ more) n default ≡ to) last
    (get_or_from_slice_get (first ∷ more) (length (first ∷ more) - 1) to default drawn.ends) in
    corner_below from to corner long from_below to_below
    (subst (λ a. (distance a corner +ℤ distance corner to) ≤ℤ long) begins
    (subst (λ b. (distance first corner +ℤ distance corner b) ≤ℤ long) ends
    (subst (λ z. (distance first corner +ℤ distance corner (get_or (first ∷ more) (length more)
    default)) ≤ℤ z) drawn.sum (way_through first more place default here)))) short

-- ---- sums of lengths
