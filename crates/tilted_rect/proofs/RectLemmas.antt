-- Tilted rectangles as sets of points: one axis first, at a scale, and then both.
use Rattle.tilted_rect.proofs.Vocabulary.{◌≡◌, ℕ, true, false, cond, int_lt, ℤ, pos, ◌+ℤ◌, ◌-ℤ◌, ◌*ℤ◌, ◌≤ℤ◌, ◌<ℤ◌, ◌↔◌, sym, ap, subst, ◌∙◌, arith, ints, int_max, int_min, Uv, IsMultipleOf, apart, rotated_distance, Rect, IsSide, IsRect, between, clamped, Holds, HoldBoth, IsNear, HasSides, CanGrowBy, gap_of, IsLeastDistance, clamped_into, IsNearest, scale_le, scale-sub, scale-add, scale-max, scale-apart}
use Rattle.tilted_rect.proofs.IntervalLemmas.{clamped_ge, clamped_le, clamped_near, near_ge, near_le, clamped_least, between_least, between_shown, between_above, between_none, max_le, le_max_left, le_max_right, max_mono, above_left, above_right, le_min, min_le_left, min_le_right, scale-min, scale-clamped, scale-between}

-- ---- points near a rectangle

-- the ends of a grown interval, over a scale
grown_low : (scale : ℕ) (lo by grown : ℤ) → grown ≡ lo -ℤ by
    → pos scale *ℤ grown ≡ pos scale *ℤ lo -ℤ pos scale *ℤ by
grown_low scale lo by grown is = ap (λ z. pos scale *ℤ z) is ∙ scale-sub scale lo by

grown_high : (scale : ℕ) (hi by grown : ℤ) → grown ≡ hi +ℤ by
    → pos scale *ℤ grown ≡ pos scale *ℤ hi +ℤ pos scale *ℤ by
grown_high scale hi by grown is = ap (λ z. pos scale *ℤ z) is ∙ scale-add scale hi by

-- a scaled length isn't negative
scale_least : (scale : ℕ) (by : ℤ) → pos 0 ≤ℤ by → pos 0 ≤ℤ (pos scale *ℤ by)
scale_least scale by least = omega (arith, ints, scale_le scale (pos 0) by least)

-- on one axis, a number of the grown interval is near the number that is clamped into the interval
axis_near : (scale : ℕ) (lo hi by low high at : ℤ) → lo ≤ℤ hi → pos 0 ≤ℤ by → low ≡ lo -ℤ by
    → high ≡ hi +ℤ by → (pos scale *ℤ low) ≤ℤ at → at ≤ℤ (pos scale *ℤ high)
    → apart (clamped (pos scale *ℤ lo) (pos scale *ℤ hi) at) at ≤ℤ (pos scale *ℤ by)
axis_near scale lo hi by low high at ordered least low_is high_is above below =
    search (arith, clamped_near, scale_le, scale_least, grown_low, grown_high)

-- a point of the grown rectangle is near one of the rectangle
near_from_held : (rect grown : Rect) (by : ℤ) (scale : ℕ) (at : Uv) → pos 0 ≤ℤ by
    → HasSides grown (rect.ulo -ℤ by) (rect.uhi +ℤ by) (rect.vlo -ℤ by) (rect.vhi +ℤ by)
    → Holds grown scale at → IsNear rect by scale at
near_from_held rect grown by scale at least sides held =
    let u = clamped (pos scale *ℤ rect.ulo) (pos scale *ℤ rect.uhi) at.u in
    let v = clamped (pos scale *ℤ rect.vlo) (pos scale *ℤ rect.vhi) at.v in
    record {
      from = record { u = u; v = v };
      holds = search (arith, clamped_ge, u, clamped_le, scale_le, v);
      near = search (arith, max_le, u, v, axis_near);
    }

-- and the other way about
held_from_near : (rect grown : Rect) (by : ℤ) (scale : ℕ) (at : Uv)
    → HasSides grown (rect.ulo -ℤ by) (rect.uhi +ℤ by) (rect.vlo -ℤ by) (rect.vhi +ℤ by)
    → IsNear rect by scale at → Holds grown scale at
held_from_near rect grown by scale at sides near =
    let length = pos scale *ℤ by in
    let in_u : apart near.from.u at.u ≤ℤ length =
    le_max_left (apart near.from.u at.u) (apart near.from.v at.v) length near.near in
    let in_v : apart near.from.v at.v ≤ℤ length =
    le_max_right (apart near.from.u at.u) (apart near.from.v at.v) length near.near in
    record {
      ulo = subst (λ z. z ≤ℤ at.u) (sym (grown_low scale rect.ulo by grown.ulo sides.ulo))
          (near_ge (pos scale *ℤ rect.ulo) length near.from.u at.u near.holds.ulo in_u);
      uhi = subst (λ z. at.u ≤ℤ z) (sym (grown_high scale rect.uhi by grown.uhi sides.uhi))
          (near_le (pos scale *ℤ rect.uhi) length near.from.u at.u near.holds.uhi in_u);
      vlo = subst (λ z. z ≤ℤ at.v) (sym (grown_low scale rect.vlo by grown.vlo sides.vlo))
          (near_ge (pos scale *ℤ rect.vlo) length near.from.v at.v near.holds.vlo in_v);
      vhi = subst (λ z. at.v ≤ℤ z) (sym (grown_high scale rect.vhi by grown.vhi sides.vhi))
          (near_le (pos scale *ℤ rect.vhi) length near.from.v at.v near.holds.vhi in_v);
    }

-- a rectangle grown by a length holds the points within that length of it
pub grown_points : (rect grown : Rect) (by : ℤ) → pos 0 ≤ℤ by
    → HasSides grown (rect.ulo -ℤ by) (rect.uhi +ℤ by) (rect.vlo -ℤ by) (rect.vhi +ℤ by)
    → (scale : ℕ) (at : Uv) → Holds grown scale at ↔ IsNear rect by scale at
grown_points rect grown by least sides scale at =
    (near_from_held rect grown by scale at least sides, held_from_near rect grown by scale at sides)

-- ---- the distance of two rectangles

-- a number over the scale 1
pub over_one : (a : ℤ) → pos 1 *ℤ a ≡ a
over_one a = omega (arith, ints)

-- a point clamped into a rectangle is in it
clamped_held : (rect : Rect) (at : Uv) → Holds rect 1 (clamped_into rect at)
clamped_held rect at = search (arith, over_one, clamped_ge, clamped_le)

-- on one axis, numbers of two intervals are no closer than the intervals
axis_apart : (scale : ℕ) (lo hi other_lo other_hi from to : ℤ) → (pos scale *ℤ lo) ≤ℤ from
    → from ≤ℤ (pos scale *ℤ hi) → (pos scale *ℤ other_lo) ≤ℤ to → to ≤ℤ (pos scale *ℤ other_hi)
    → (pos scale *ℤ between lo hi other_lo other_hi) ≤ℤ apart from to
axis_apart scale lo hi other_lo other_hi from to above below other_above other_below =
    search (arith, scale-between, between_least)

-- points of two rectangles are no closer than the gap
gap_least : (rect other : Rect) (scale : ℕ) (from to : Uv) → Holds rect scale from
    → Holds other scale to → (pos scale *ℤ gap_of rect other) ≤ℤ rotated_distance from to
gap_least rect other scale from to held other_held = search (arith, scale-max, max_mono, axis_apart)

-- the gap is the least distance of the two rectangles
pub gap_is_least : (rect other : Rect) → IsLeastDistance rect other (gap_of rect other)
gap_is_least rect other =
    let corner : Uv = record { u = other.ulo; v = other.vlo } in
    let from : Uv = clamped_into rect corner in
    let to : Uv = clamped_into other from in
    record {
      least = gap_least rect other;
      from = from;
      to = to;
      from_held = clamped_held rect corner;
      to_held = clamped_held other from;
      shown = search (arith, from, to, between_shown);
    }

-- ---- the nearest point

-- on one axis, no number of the interval is nearer than the clamped one
axis_nearest : (scale : ℕ) (lo hi to at : ℤ) → (pos scale *ℤ lo) ≤ℤ at → at ≤ℤ (pos scale *ℤ hi)
    → (pos scale *ℤ apart to (clamped lo hi to)) ≤ℤ apart (pos scale *ℤ to) at
axis_nearest scale lo hi to at above below =
    search (arith, scale-apart, scale-clamped, clamped_least)

-- the clamped point is the nearest one
pub clamped_nearest : (rect : Rect) (to : Uv) → IsNearest rect to (clamped_into rect to)
clamped_nearest rect to =
    let in_u = λ (scale : ℕ) (at : Uv) (held : Holds rect scale at).
    axis_nearest scale rect.ulo rect.uhi to.u at.u held.ulo held.uhi in
    let in_v = λ (scale : ℕ) (at : Uv) (held : Holds rect scale at).
    axis_nearest scale rect.vlo rect.vhi to.v at.v held.vlo held.vhi in
    record {
      holds = clamped_held rect to;
      u = in_u;
      v = in_v;
      least = search (arith, scale-max, max_mono, in_u, in_v);
    }

-- ---- the common points

-- the ends of a common interval, over a scale
common_low : (scale : ℕ) (lo other_lo common : ℤ) → common ≡ int_max lo other_lo
    → pos scale *ℤ common ≡ int_max (pos scale *ℤ lo) (pos scale *ℤ other_lo)
common_low scale lo other_lo common is = ap (λ z. pos scale *ℤ z) is ∙ scale-max scale lo other_lo

common_high : (scale : ℕ) (hi other_hi common : ℤ) → common ≡ int_min hi other_hi
    → pos scale *ℤ common ≡ int_min (pos scale *ℤ hi) (pos scale *ℤ other_hi)
common_high scale hi other_hi common is = ap (λ z. pos scale *ℤ z) is ∙ scale-min scale hi other_hi

both_from_common : (rect other common : Rect) (scale : ℕ) (at : Uv)
    → HasSides common (int_max rect.ulo other.ulo) (int_min rect.uhi other.uhi)
    (int_max rect.vlo other.vlo) (int_min rect.vhi other.vhi) → Holds common scale at
    → HoldBoth rect other scale at
both_from_common rect other common scale at sides held =
    let ulo =
    subst (λ z. z ≤ℤ at.u) (common_low scale rect.ulo other.ulo common.ulo sides.ulo) held.ulo in
    let uhi =
    subst (λ z. at.u ≤ℤ z) (common_high scale rect.uhi other.uhi common.uhi sides.uhi) held.uhi in
    let vlo =
    subst (λ z. z ≤ℤ at.v) (common_low scale rect.vlo other.vlo common.vlo sides.vlo) held.vlo in
    let vhi =
    subst (λ z. at.v ≤ℤ z) (common_high scale rect.vhi other.vhi common.vhi sides.vhi) held.vhi in
    record {
      first = search (arith, ulo, le_max_left, uhi, min_le_left, vlo, vhi);
      second = search (arith, ulo, le_max_right, uhi, min_le_right, vlo, vhi);
    }

common_from_both : (rect other common : Rect) (scale : ℕ) (at : Uv)
    → HasSides common (int_max rect.ulo other.ulo) (int_min rect.uhi other.uhi)
    (int_max rect.vlo other.vlo) (int_min rect.vhi other.vhi) → HoldBoth rect other scale at
    → Holds common scale at
common_from_both rect other common scale at sides both = record {
  ulo = subst (λ z. z ≤ℤ at.u) (sym (common_low scale rect.ulo other.ulo common.ulo sides.ulo))
      (max_le (pos scale *ℤ rect.ulo) (pos scale *ℤ other.ulo) at.u both.first.ulo both.second.ulo);
  uhi = subst (λ z. at.u ≤ℤ z) (sym (common_high scale rect.uhi other.uhi common.uhi sides.uhi))
      (le_min (pos scale *ℤ rect.uhi) (pos scale *ℤ other.uhi) at.u both.first.uhi both.second.uhi);
  vlo = subst (λ z. z ≤ℤ at.v) (sym (common_low scale rect.vlo other.vlo common.vlo sides.vlo))
      (max_le (pos scale *ℤ rect.vlo) (pos scale *ℤ other.vlo) at.v both.first.vlo both.second.vlo);
  vhi = subst (λ z. at.v ≤ℤ z) (sym (common_high scale rect.vhi other.vhi common.vhi sides.vhi))
      (le_min (pos scale *ℤ rect.vhi) (pos scale *ℤ other.vhi) at.v both.first.vhi both.second.vhi);
}

-- two rectangles meet in the points of both
pub meet_points : (rect other common : Rect)
    → HasSides common (int_max rect.ulo other.ulo) (int_min rect.uhi other.uhi)
    (int_max rect.vlo other.vlo) (int_min rect.vhi other.vhi) → (scale : ℕ) (at : Uv)
    → Holds common scale at ↔ HoldBoth rect other scale at
meet_points rect other common sides scale at = search (arith, both_from_common, common_from_both)

-- rectangles without a common u, or without a common v, are apart
pub gap_above_u : (rect other : Rect) → int_min rect.uhi other.uhi <ℤ int_max rect.ulo other.ulo
    → pos 0 <ℤ gap_of rect other
gap_above_u rect other crossed = search (arith, above_left, between_above)

pub gap_above_v : (rect other : Rect) → int_min rect.vhi other.vhi <ℤ int_max rect.vlo other.vlo
    → pos 0 <ℤ gap_of rect other
gap_above_v rect other crossed = search (arith, above_right, between_above)

-- others aren't
pub gap_none : (rect other : Rect) → int_max rect.ulo other.ulo ≤ℤ int_min rect.uhi other.uhi
    → int_max rect.vlo other.vlo ≤ℤ int_min rect.vhi other.vhi → gap_of rect other ≤ℤ pos 0
gap_none rect other common_u common_v = search (arith, max_le, between_none)

-- ---- the sides

-- what holds of two numbers holds of the greater and of the smaller
pub max_either : (P : ℤ → Type 0) (a b : ℤ) → P a → P b → P (int_max a b)
max_either P a b first second =
    elim (int_lt b a) as (λ t. P (cond t a b)) [ true ↦ first | false ↦ second ]

pub min_either : (P : ℤ → Type 0) (a b : ℤ) → P a → P b → P (int_min a b)
min_either P a b first second =
    elim (int_lt b a) as (λ t. P (cond t b a)) [ true ↦ second | false ↦ first ]

-- where four sides are those of a rectangle, so are their equals
pub is_rect_along : (ulo uhi vlo vhi ulo' uhi' vlo' vhi' : ℤ) → ulo' ≡ ulo → uhi' ≡ uhi → vlo' ≡ vlo
    → vhi' ≡ vhi → IsRect ulo uhi vlo vhi → IsRect ulo' uhi' vlo' vhi'
is_rect_along ulo uhi vlo vhi ulo' uhi' vlo' vhi' a b c d valid = search arith

grown_ordered : (lo hi by : ℤ) → lo ≤ℤ hi → pos 0 ≤ℤ by → (lo -ℤ by) ≤ℤ (hi +ℤ by)
grown_ordered lo hi by ordered least = omega (arith, ints)

-- multiples of 4 stay so in a difference and in a sum
difference_multiple : (a b : ℤ) → IsMultipleOf 4 a → IsMultipleOf 4 b → IsMultipleOf 4 (a -ℤ b)
difference_multiple a b first second = omega (arith, ints)

sum_multiple : (a b : ℤ) → IsMultipleOf 4 a → IsMultipleOf 4 b → IsMultipleOf 4 (a +ℤ b)
sum_multiple a b first second = omega (arith, ints)

-- the sides of a grown rectangle
pub grown_valid : (rect : Rect) (by : ℤ) → pos 0 ≤ℤ by → IsMultipleOf 4 by → CanGrowBy rect by
    → IsRect (rect.ulo -ℤ by) (rect.uhi +ℤ by) (rect.vlo -ℤ by) (rect.vhi +ℤ by)
grown_valid rect by least multiple room =
    search (arith, grown_ordered, difference_multiple, sum_multiple)

-- the sides of a common rectangle
pub meet_valid : (rect other : Rect) → int_max rect.ulo other.ulo ≤ℤ int_min rect.uhi other.uhi
    → int_max rect.vlo other.vlo ≤ℤ int_min rect.vhi other.vhi
    → IsRect (int_max rect.ulo other.ulo) (int_min rect.uhi other.uhi) (int_max rect.vlo other.vlo)
    (int_min rect.vhi other.vhi)
meet_valid rect other common_u common_v = record {
  u_ordered = common_u;
  v_ordered = common_v;
  least_u = max_either IsSide rect.ulo other.ulo rect.valid.least_u other.valid.least_u;
  greatest_u = min_either IsSide rect.uhi other.uhi rect.valid.greatest_u other.valid.greatest_u;
  least_v = max_either IsSide rect.vlo other.vlo rect.valid.least_v other.valid.least_v;
  greatest_v = min_either IsSide rect.vhi other.vhi rect.valid.greatest_v other.valid.greatest_v;
}

-- a multiple clamped between multiples is one
pub clamped_multiple : (step : ℕ) (lo hi to : ℤ) → IsMultipleOf step lo → IsMultipleOf step hi
    → IsMultipleOf step to → IsMultipleOf step (clamped lo hi to)
clamped_multiple step lo hi to low high at = max_either (IsMultipleOf step) lo (int_min to hi) low
    (min_either (IsMultipleOf step) to hi at high)
