-- The region of a set of sinks: which rectangle it is, and where it has a point.
use Rattle.tilted_rect.proofs.Vocabulary.{◌≡◌, ℕ, List, [], ◌∷◌, ℤ, pos, ◌+ℤ◌, ◌-ℤ◌, ◌*ℤ◌, ◌≤ℤ◌, ◌↔◌, refl, sym, ap, subst, ◌∙◌, arith, Contains, ints, clamps, Contains-append_right, Sink, Uv, apart, scaled, rotated_distance, span, IsDoubleReach, InRegion, MeetTwoByTwo, Extremes, IsExtremes, spread, IsBetween, HasExtremeSides, IsRegion, clamped, Holds, IsNear, Rect, scale_le, scale-sub, scale-add, scale-max, scale-apart}
use Rattle.tilted_rect.proofs.ExtremeLemmas.{contains_itself, contains_none, has_extremes}
use Rattle.tilted_rect.proofs.IntervalLemmas.{clamped_ge, clamped_le, clamped_near, max_le, le_max_left, le_max_right}
use Rattle.tilted_rect.proofs.RectLemmas.{over_one}
use Rattle.tilted_rect.proofs.SpanLemmas.{one_greatest_span, spread_is_reach}

-- ---- one axis, on plain numbers

-- what is near a number lies between the ends that the number gives
low_end : (x y point radius greatest : ℤ) → greatest ≡ x +ℤ y → apart x point ≤ℤ (radius -ℤ y)
    → (greatest -ℤ radius) ≤ℤ point
low_end x y point radius greatest is near = omega (arith, ints, clamps)

high_end : (x y point radius least : ℤ) → least ≡ x -ℤ y → apart x point ≤ℤ (radius -ℤ y)
    → point ≤ℤ (least +ℤ radius)
high_end x y point radius least is near = omega (arith, ints, clamps)

-- and what lies between the ends of all numbers is near each
near_ends : (x y point radius greatest least : ℤ) → (x +ℤ y) ≤ℤ greatest → least ≤ℤ (x -ℤ y)
    → (greatest -ℤ radius) ≤ℤ point → point ≤ℤ (least +ℤ radius) → apart x point ≤ℤ (radius -ℤ y)
near_ends x y point radius greatest least above below low high = omega (arith, ints, clamps)

-- two numbers with a common point near both are no further apart
near_both : (x x' point a b : ℤ) → apart x point ≤ℤ a → apart x' point ≤ℤ b → apart x x' ≤ℤ (a +ℤ b)
near_both x x' point a b near far = omega (arith, ints, clamps)

-- a distance by way of a third point
axis_through : (x from to by part : ℤ) → apart x from ≤ℤ part → apart from to ≤ℤ by
    → apart x to ≤ℤ (part +ℤ by)
axis_through x from to by part near far = omega (arith, ints, clamps)

distance_through : (at from to : Uv) (by : ℤ) → rotated_distance from to ≤ℤ by
    → rotated_distance at to ≤ℤ (rotated_distance at from +ℤ by)
distance_through at from to by near =
    let part = rotated_distance at from in
    let same : part ≤ℤ part = omega (arith, ints) in
    max_le (apart at.u to.u) (apart at.v to.v) (part +ℤ by)
    (axis_through at.u from.u to.u by part
    (le_max_left (apart at.u from.u) (apart at.v from.v) part same)
    (le_max_left (apart from.u to.u) (apart from.v to.v) by near))
    (axis_through at.v from.v to.v by part
    (le_max_right (apart at.u from.u) (apart at.v from.v) part same)
    (le_max_right (apart from.u to.u) (apart from.v to.v) by near))

-- ---- over a scale

-- the ends on one axis
scaled_low : (scale : ℕ) (place offset point radius greatest : ℤ) → place +ℤ offset ≡ greatest
    → apart (pos scale *ℤ place) point ≤ℤ (radius -ℤ pos scale *ℤ offset)
    → (pos scale *ℤ greatest -ℤ radius) ≤ℤ point
scaled_low scale place offset point radius greatest is near =
    low_end (pos scale *ℤ place) (pos scale *ℤ offset) point radius (pos scale *ℤ greatest)
    (ap (λ z. pos scale *ℤ z) (sym is) ∙ scale-add scale place offset) near

scaled_high : (scale : ℕ) (place offset point radius least : ℤ) → place -ℤ offset ≡ least
    → apart (pos scale *ℤ place) point ≤ℤ (radius -ℤ pos scale *ℤ offset)
    → point ≤ℤ (pos scale *ℤ least +ℤ radius)
scaled_high scale place offset point radius least is near =
    high_end (pos scale *ℤ place) (pos scale *ℤ offset) point radius (pos scale *ℤ least)
    (ap (λ z. pos scale *ℤ z) (sym is) ∙ scale-sub scale place offset) near

scaled_near : (scale : ℕ) (place offset point radius greatest least : ℤ)
    → (place +ℤ offset) ≤ℤ greatest → least ≤ℤ (place -ℤ offset)
    → (pos scale *ℤ greatest -ℤ radius) ≤ℤ point → point ≤ℤ (pos scale *ℤ least +ℤ radius)
    → apart (pos scale *ℤ place) point ≤ℤ (radius -ℤ pos scale *ℤ offset)
scaled_near scale place offset point radius greatest least above below low high =
    near_ends (pos scale *ℤ place) (pos scale *ℤ offset) point radius (pos scale *ℤ greatest)
    (pos scale *ℤ least)
    (subst (λ z. z ≤ℤ (pos scale *ℤ greatest)) (scale-add scale place offset)
    (scale_le scale (place +ℤ offset) greatest above))
    (subst (λ z. (pos scale *ℤ least) ≤ℤ z) (scale-sub scale place offset)
    (scale_le scale least (place -ℤ offset) below))
    low high

-- ---- the region lies between the extremes

between_from_region : (sinks : List Sink) (extremes : Extremes) (scale : ℕ) (radius : ℤ)
    (point : Uv) → IsExtremes sinks extremes → InRegion sinks scale radius point
    → IsBetween extremes scale radius point
between_from_region sinks extremes scale radius point held region = record {
  ulo = search (arith, scaled_low, near_u);
  uhi = search (arith, scaled_high, near_u);
  vlo = search (arith, scaled_low, near_v);
  vhi = search (arith, scaled_high, near_v);
}
  where
    near_u : (sink : Sink) → Contains sinks sink
        → apart (pos scale *ℤ sink.at.u) point.u ≤ℤ (radius -ℤ pos scale *ℤ sink.offset)
    near_u sink among = search (arith, le_max_left)

    near_v : (sink : Sink) → Contains sinks sink
        → apart (pos scale *ℤ sink.at.v) point.v ≤ℤ (radius -ℤ pos scale *ℤ sink.offset)
    near_v sink among = search (arith, le_max_right)

region_from_between : (sinks : List Sink) (extremes : Extremes) (scale : ℕ) (radius : ℤ)
    (point : Uv) → IsExtremes sinks extremes → IsBetween extremes scale radius point
    → InRegion sinks scale radius point
region_from_between sinks extremes scale radius point held between sink among =
    search (arith, max_le, scaled_near)

-- the points of a region are those between the extremes
pub region_is_between : (sinks : List Sink) (extremes : Extremes) (scale : ℕ) (radius : ℤ)
    (point : Uv) → IsExtremes sinks extremes
    → InRegion sinks scale radius point ↔ IsBetween extremes scale radius point
region_is_between sinks extremes scale radius point held =
    search (arith, between_from_region, region_from_between)

-- ---- the rectangle of a region

-- the ends over a scale, of sides given by the extremes
side_low : (scale : ℕ) (side greatest radius : ℤ) → side ≡ greatest -ℤ radius
    → pos scale *ℤ side ≡ pos scale *ℤ greatest -ℤ pos scale *ℤ radius
side_low scale side greatest radius is =
    ap (λ z. pos scale *ℤ z) is ∙ scale-sub scale greatest radius

side_high : (scale : ℕ) (side least radius : ℤ) → side ≡ least +ℤ radius
    → pos scale *ℤ side ≡ pos scale *ℤ least +ℤ pos scale *ℤ radius
side_high scale side least radius is = ap (λ z. pos scale *ℤ z) is ∙ scale-add scale least radius

-- the rectangle between the extremes holds what is between them
held_is_between : (rect : Rect) (extremes : Extremes) (scale : ℕ) (radius : ℤ) (point : Uv)
    → HasExtremeSides rect extremes radius
    → Holds rect scale point ↔ IsBetween extremes scale (pos scale *ℤ radius) point
held_is_between rect extremes scale radius point sides = search (arith, side_low, side_high)

pub region_from_sides : (sinks : List Sink) (extremes : Extremes) (rect : Rect) (radius : ℤ)
    → IsExtremes sinks extremes → HasExtremeSides rect extremes radius → IsRegion rect sinks radius
region_from_sides sinks extremes rect radius held sides scale point =
    let rectangle = held_is_between rect extremes scale radius point sides in (
      λ at. region_from_between sinks extremes scale (pos scale *ℤ radius) point held
          (rectangle.0 at),
      λ region. rectangle.1 (between_from_region sinks extremes scale
          (pos scale *ℤ radius) point held region),
    )

-- a corner of the rectangle is in it
low_corner : (rect : Rect) → Holds rect 1 (record { u = rect.ulo; v = rect.vlo })
low_corner rect = search (arith, over_one, ints)

high_corner : (rect : Rect) → Holds rect 1 (record { u = rect.uhi; v = rect.vhi })
high_corner rect = search (arith, over_one, ints)

pub sides_from_region : (sinks : List Sink) (extremes : Extremes) (rect : Rect) (radius : ℤ)
    → IsExtremes sinks extremes → IsRegion rect sinks radius → HasExtremeSides rect extremes radius
sides_from_region sinks extremes rect radius held region =
    let corner : Uv = record { u = rect.ulo; v = rect.vlo } in
    let far_corner : Uv = record { u = rect.uhi; v = rect.vhi } in
    let low = between_from_region sinks extremes 1 (pos 1 *ℤ radius) corner held
    ((region 1 corner).0 (low_corner rect)) in
    let high = between_from_region sinks extremes 1 (pos 1 *ℤ radius) far_corner held
    ((region 1 far_corner).0 (high_corner rect)) in
    let least : Uv =
    record { u = extremes.greatest_u -ℤ radius; v = extremes.greatest_v -ℤ radius } in
    let greatest : Uv = record { u = extremes.least_u +ℤ radius; v = extremes.least_v +ℤ radius } in
    let u_ordered : (extremes.greatest_u -ℤ radius) ≤ℤ (extremes.least_u +ℤ radius) =
    omega (arith, ints, low.ulo, low.uhi) in
    let v_ordered : (extremes.greatest_v -ℤ radius) ≤ℤ (extremes.least_v +ℤ radius) =
    omega (arith, ints, low.vlo, low.vhi) in
    let at_least : IsBetween extremes 1 (pos 1 *ℤ radius) least = record {
      ulo = omega (arith, ints);
      uhi = omega (arith, ints);
      vlo = omega (arith, ints);
      vhi = omega (arith, ints);
    } in
    let at_greatest : IsBetween extremes 1 (pos 1 *ℤ radius) greatest = record {
      ulo = omega (arith, ints);
      uhi = omega (arith, ints);
      vlo = omega (arith, ints);
      vhi = omega (arith, ints);
    } in
    let least_held : Holds rect 1 least = (region 1 least).1
    (region_from_between sinks extremes 1 (pos 1 *ℤ radius) least held at_least) in
    let greatest_held : Holds rect 1 greatest = (region 1 greatest).1
    (region_from_between sinks extremes 1 (pos 1 *ℤ radius) greatest held at_greatest) in
    record {
      ulo = omega (arith, ints, low.ulo, least_held.ulo);
      uhi = omega (arith, ints, high.uhi, greatest_held.uhi);
      vlo = omega (arith, ints, low.vlo, least_held.vlo);
      vhi = omega (arith, ints, high.vhi, greatest_held.vhi);
    }

-- the rectangle of a region is the one between the extremes
pub region_has_extreme_sides : (sinks : List Sink) (extremes : Extremes) (rect : Rect) (radius : ℤ)
    → IsExtremes sinks extremes → IsRegion rect sinks radius ↔ HasExtremeSides rect extremes radius
region_has_extreme_sides sinks extremes rect radius held =
    search (arith, sides_from_region, region_from_sides)

-- ---- the region at a greater radius

-- the ends of an interval that is grown from one radius to another
wider_low : (low greatest radius wide by : ℤ) → low ≡ greatest -ℤ radius → by ≡ wide -ℤ radius
    → low -ℤ by ≡ greatest -ℤ wide
wider_low low greatest radius wide by is by_is = omega (arith, ints)

wider_high : (high least radius wide by : ℤ) → high ≡ least +ℤ radius → by ≡ wide -ℤ radius
    → high +ℤ by ≡ least +ℤ wide
wider_high high least radius wide by is by_is = omega (arith, ints)

-- on one axis, what lies between the ends at the greater radius is near what is clamped into the
-- interval
near_axis : (scale : ℕ) (lo hi greatest least radius wide at : ℤ) → lo ≤ℤ hi → radius ≤ℤ wide
    → lo ≡ greatest -ℤ radius → hi ≡ least +ℤ radius
    → (pos scale *ℤ greatest -ℤ pos scale *ℤ wide) ≤ℤ at
    → at ≤ℤ (pos scale *ℤ least +ℤ pos scale *ℤ wide)
    → apart (clamped (pos scale *ℤ lo) (pos scale *ℤ hi) at) at ≤ℤ (pos scale *ℤ (wide -ℤ radius))
near_axis scale lo hi greatest least radius wide at ordered more lo_is hi_is above below =
    clamped_near (pos scale *ℤ lo) (pos scale *ℤ hi)
    (pos scale *ℤ (wide -ℤ radius)) at (scale_le scale lo hi ordered)
    (omega (arith, ints, scale_le scale radius wide more, scale-sub scale wide radius))
    (subst (λ z. z ≤ℤ at)
    (sym (wider_low (pos scale *ℤ lo) (pos scale *ℤ greatest) (pos scale *ℤ radius)
    (pos scale *ℤ wide) (pos scale *ℤ (wide -ℤ radius)) (side_low scale lo greatest radius lo_is)
    (scale-sub scale wide radius))) above)
    (subst (λ z. at ≤ℤ z)
    (sym (wider_high (pos scale *ℤ hi) (pos scale *ℤ least) (pos scale *ℤ radius)
    (pos scale *ℤ wide) (pos scale *ℤ (wide -ℤ radius)) (side_high scale hi least radius hi_is)
    (scale-sub scale wide radius))) below)

-- a point between the extremes at the greater radius is near the rectangle
near_from_between : (rect : Rect) (extremes : Extremes) (radius wide : ℤ) (scale : ℕ) (point : Uv)
    → HasExtremeSides rect extremes radius → radius ≤ℤ wide
    → IsBetween extremes scale (pos scale *ℤ wide) point → IsNear rect (wide -ℤ radius) scale point
near_from_between rect extremes radius wide scale point sides more between =
    let u = clamped (pos scale *ℤ rect.ulo) (pos scale *ℤ rect.uhi) point.u in
    let v = clamped (pos scale *ℤ rect.vlo) (pos scale *ℤ rect.vhi) point.v in
    record {
      from = record { u = u; v = v };
      holds = search (arith, clamped_ge, u, clamped_le, scale_le, v);
      near = search (arith, max_le, u, v, near_axis);
    }

-- a point near one of the region is in the region at the greater radius
region_from_near : (sinks : List Sink) (rect : Rect) (radius wide : ℤ) (scale : ℕ) (point : Uv)
    → IsRegion rect sinks radius → IsNear rect (wide -ℤ radius) scale point
    → InRegion sinks scale (pos scale *ℤ wide) point
region_from_near sinks rect radius wide scale point region near sink among =
    further (rotated_distance (scaled scale sink.at) near.from) (pos scale *ℤ radius)
    (pos scale *ℤ sink.offset) (pos scale *ℤ wide) (pos scale *ℤ (wide -ℤ radius))
    (rotated_distance (scaled scale sink.at) point)
    ((region scale near.from).0 near.holds sink among)
    (scale-sub scale wide radius)
    (distance_through (scaled scale sink.at) near.from point
    (pos scale *ℤ (wide -ℤ radius)) near.near)
  where
    further : (part radius offset wide by whole : ℤ) → part ≤ℤ (radius -ℤ offset)
        → by ≡ wide -ℤ radius → whole ≤ℤ (part +ℤ by) → whole ≤ℤ (wide -ℤ offset)
    further part radius offset wide by whole near by_is through = omega (arith, ints)

-- no rectangle is the region of no sinks, since that has every point
pub region_extremes : (sinks : List Sink) (rect : Rect) (radius : ℤ) → IsRegion rect sinks radius
    → (extremes : Extremes) × IsExtremes sinks extremes
region_extremes [] rect radius region =
    let beyond : Uv = record { u = rect.uhi +ℤ pos 1; v = rect.vlo } in
    let held = (region 1 beyond).1 (λ sink among. absurd (contains_none sink among)) in
    absurd (omega (arith, ints, held.uhi))
region_extremes (sink ∷ more) rect radius region = has_extremes sink more

-- the region at a greater radius is what is near the region
pub wider_region_is_near : (sinks : List Sink) (rect : Rect) (radius wide : ℤ) (scale : ℕ)
    (point : Uv) → IsRegion rect sinks radius → radius ≤ℤ wide
    → InRegion sinks scale (pos scale *ℤ wide) point ↔ IsNear rect (wide -ℤ radius) scale point
wider_region_is_near sinks rect radius wide scale point region more =
    let found = region_extremes sinks rect radius region in (
      λ wider. near_from_between rect found.0 radius wide scale point
          (sides_from_region sinks found.0 rect radius found.1 region) more
          (between_from_region sinks found.0 scale (pos scale *ℤ wide) point found.1 wider),
      λ near. region_from_near sinks rect radius wide scale point region near,
    )

-- ---- where a region has a point

-- a span over a scale
scale-span : (scale : ℕ) (one other : Sink)
    → pos scale *ℤ span one other ≡ pos scale *ℤ one.offset +ℤ pos scale *ℤ other.offset
    +ℤ rotated_distance (scaled scale one.at) (scaled scale other.at)
scale-span scale one other = search (arith, scale-add, scale-max, scale-apart)

-- lengths from a point to two sinks, each with its offset at most the radius
both_within : (a b radius across : ℤ) → across ≤ℤ ((radius -ℤ a) +ℤ (radius -ℤ b))
    → (a +ℤ b +ℤ across) ≤ℤ (radius +ℤ radius)
both_within a b radius across within = omega (arith, ints)

distance_within : (from to point : Uv) (a b : ℤ) → rotated_distance from point ≤ℤ a
    → rotated_distance to point ≤ℤ b → rotated_distance from to ≤ℤ (a +ℤ b)
distance_within from to point a b near far =
    search (arith, max_le, near_both, le_max_left, le_max_right)

-- a point that is near two sinks shows that their span is no more than twice the radius
pub span_within : (sinks : List Sink) (scale : ℕ) (radius : ℤ) (point : Uv) (one other : Sink)
    → Contains sinks one → Contains sinks other → InRegion sinks scale radius point
    → (pos scale *ℤ span one other) ≤ℤ (radius +ℤ radius)
span_within sinks scale radius point one other among other_among region =
    subst (λ z. z ≤ℤ (radius +ℤ radius)) (sym (scale-span scale one other))
    (both_within (pos scale *ℤ one.offset) (pos scale *ℤ other.offset) radius
    (rotated_distance (scaled scale one.at) (scaled scale other.at))
    (distance_within (scaled scale one.at) (scaled scale other.at) point
    (radius -ℤ pos scale *ℤ one.offset) (radius -ℤ pos scale *ℤ other.offset) (region one among)
    (region other other_among)))

-- between extremes that differ by no more than twice the radius there is a point
room_between : (scale : ℕ) (greatest least twice radius : ℤ) → (greatest -ℤ least) ≤ℤ twice
    → (pos scale *ℤ twice) ≤ℤ (radius +ℤ radius)
    → (pos scale *ℤ greatest -ℤ radius) ≤ℤ (pos scale *ℤ least +ℤ radius)
room_between scale greatest least twice radius below within =
    let over : (pos scale *ℤ greatest -ℤ pos scale *ℤ least) ≤ℤ (pos scale *ℤ twice) =
    subst (λ z. z ≤ℤ (pos scale *ℤ twice)) (scale-sub scale greatest least)
    (scale_le scale (greatest -ℤ least) twice below) in
    room (pos scale *ℤ greatest) (pos scale *ℤ least) (pos scale *ℤ twice) over within
  where
    room : (greatest least twice : ℤ) → (greatest -ℤ least) ≤ℤ twice → twice ≤ℤ (radius +ℤ radius)
        → (greatest -ℤ radius) ≤ℤ (least +ℤ radius)
    room greatest least twice over within = omega (arith, ints)

same_le : (a : ℤ) → a ≤ℤ a
same_le a = omega (arith, ints)

point_between : (extremes : Extremes) (scale : ℕ) (radius : ℤ)
    → (pos scale *ℤ spread extremes) ≤ℤ (radius +ℤ radius)
    → (point : Uv) × IsBetween extremes scale radius point
point_between extremes scale radius within =
    let u = extremes.greatest_u -ℤ extremes.least_u in
    let v = extremes.greatest_v -ℤ extremes.least_v in (
      record {
        u = pos scale *ℤ extremes.greatest_u -ℤ radius;
        v = pos scale *ℤ extremes.greatest_v -ℤ radius;
      },
      record {
        ulo = same_le (pos scale *ℤ extremes.greatest_u -ℤ radius);
        uhi = room_between scale extremes.greatest_u extremes.least_u (spread extremes) radius
            (le_max_left u v (spread extremes) (same_le (spread extremes))) within;
        vlo = same_le (pos scale *ℤ extremes.greatest_v -ℤ radius);
        vhi = room_between scale extremes.greatest_v extremes.least_v (spread extremes) radius
            (le_max_right u v (spread extremes) (same_le (spread extremes))) within;
      },
    )

point_in_region : (sinks : List Sink) (twice : ℤ) (scale : ℕ) (radius : ℤ) → IsDoubleReach sinks
    twice
    → (pos scale *ℤ twice) ≤ℤ (radius +ℤ radius) → (point : Uv) × InRegion sinks scale radius point
point_in_region [] twice scale radius reach within =
    absurd (contains_none reach.one reach.one_among)
point_in_region (sink ∷ more) twice scale radius reach within =
    let found = has_extremes sink more in
    let is : twice ≡ spread found.0 = one_greatest_span (sink ∷ more) (sink ∷ more) twice
    (spread found.0) reach (spread_is_reach (sink ∷ more) found.0 found.1) in
    let at = point_between found.0 scale radius
    (subst (λ z. (pos scale *ℤ z) ≤ℤ (radius +ℤ radius)) is within) in
    (at.0, region_from_between (sink ∷ more) found.0 scale radius at.0 found.1 at.1)

-- a region has a point exactly where the reach is no more than its radius
pub region_has_point : (sinks : List Sink) (twice : ℤ) (scale : ℕ) (radius : ℤ)
    → IsDoubleReach sinks twice → ((point : Uv) × InRegion sinks scale radius point)
    ↔ ((pos scale *ℤ twice) ≤ℤ (radius +ℤ radius))
region_has_point sinks twice scale radius reach = (
  λ found. subst (λ z. (pos scale *ℤ z) ≤ℤ (radius +ℤ radius)) reach.shown
      (span_within sinks scale radius found.0 reach.one reach.other reach.one_among
      reach.other_among found.1),
  point_in_region sinks twice scale radius reach,
)

-- squares that meet two by two have a common point
pub squares_meet : (sinks : List Sink) (scale : ℕ) (radius : ℤ) → MeetTwoByTwo sinks scale radius
    → (point : Uv) × InRegion sinks scale radius point
squares_meet [] scale radius meet =
    (record { u = pos 0; v = pos 0 }, λ sink among. absurd (contains_none sink among))
squares_meet (sink ∷ more) scale radius meet =
    let sinks = sink ∷ more in
    let found = has_extremes sink more in
    let reach : IsDoubleReach sinks (spread found.0) = spread_is_reach sinks found.0 found.1 in
    let pair = meet reach.one reach.other reach.one_among reach.other_among in
    let both = reach.one ∷ reach.other ∷ [] in
    point_in_region sinks (spread found.0) scale radius reach
    (subst (λ z. (pos scale *ℤ z) ≤ℤ (radius +ℤ radius)) reach.shown
    (span_within both scale radius pair.0 reach.one reach.other (0, omega arith, refl)
    (Contains-append_right (reach.one ∷ []) (reach.other ∷ []) reach.other
    (contains_itself reach.other)) pair.1))
