-- The greatest span of two sets of sinks, by their extremes.
use Rattle.tilted_rect.proofs.Vocabulary.{◌≡◌, List, ℤ, ◌+ℤ◌, ◌-ℤ◌, ◌≤ℤ◌, ◌↔◌, subst, sym, arith, Contains, ints, clamps, int_max, Sink, apart, span, IsGreatestSpan, IsDoubleReach, u_above, u_below, v_above, v_below, Extremes, IsExtremes, spread}
use Rattle.tilted_rect.proofs.RectLemmas.{max_either}

-- ---- on plain numbers

-- a span is no more than that where, in u and in v, neither sink is further beyond the other
span_le : (a b u u' v v' most : ℤ) → ((u +ℤ a) -ℤ (u' -ℤ b)) ≤ℤ most
    → ((u' +ℤ b) -ℤ (u -ℤ a)) ≤ℤ most → ((v +ℤ a) -ℤ (v' -ℤ b)) ≤ℤ most
    → ((v' +ℤ b) -ℤ (v -ℤ a)) ≤ℤ most → (a +ℤ b +ℤ int_max (apart u u') (apart v v')) ≤ℤ most
span_le a b u u' v v' most right left up down = omega (arith, ints, clamps)

-- and it is at least each of the four
span_ge_right : (a b u u' v v' : ℤ)
    → ((u +ℤ a) -ℤ (u' -ℤ b)) ≤ℤ (a +ℤ b +ℤ int_max (apart u u') (apart v v'))
span_ge_right a b u u' v v' = omega (arith, ints, clamps)

span_ge_left : (a b u u' v v' : ℤ)
    → ((u' +ℤ b) -ℤ (u -ℤ a)) ≤ℤ (a +ℤ b +ℤ int_max (apart u u') (apart v v'))
span_ge_left a b u u' v v' = omega (arith, ints, clamps)

span_ge_up : (a b u u' v v' : ℤ)
    → ((v +ℤ a) -ℤ (v' -ℤ b)) ≤ℤ (a +ℤ b +ℤ int_max (apart u u') (apart v v'))
span_ge_up a b u u' v v' = omega (arith, ints, clamps)

span_ge_down : (a b u u' v v' : ℤ)
    → ((v' +ℤ b) -ℤ (v -ℤ a)) ≤ℤ (a +ℤ b +ℤ int_max (apart u u') (apart v v'))
span_ge_down a b u u' v v' = omega (arith, ints, clamps)

-- a difference is no more than that of a greater and a smaller number
difference_le : (x y greatest least : ℤ) → x ≤ℤ greatest → least ≤ℤ y
    → (x -ℤ y) ≤ℤ (greatest -ℤ least)
difference_le x y greatest least above below = omega (arith, ints)

-- each of four numbers is at most the greatest
le_greatest : (a b c d : ℤ)
    → (a ≤ℤ int_max (int_max a b) (int_max c d)) × (b ≤ℤ int_max (int_max a b) (int_max c d))
    × (c ≤ℤ int_max (int_max a b) (int_max c d)) × (d ≤ℤ int_max (int_max a b) (int_max c d))
le_greatest a b c d = search (arith, ints, clamps)

-- a difference of two numbers that are known by equations
as_far : (x y greatest least far : ℤ) → x ≡ greatest → y ≡ least → (x -ℤ y) ≤ℤ far
    → (greatest -ℤ least) ≤ℤ far
as_far x y greatest least far above below within = omega (arith, ints)

-- a span is the same either way
span-swap : (a b u u' v v' : ℤ)
    → a +ℤ b +ℤ int_max (apart u u') (apart v v') ≡ b +ℤ a +ℤ int_max (apart u' u) (apart v' v)
span-swap a b u u' v v' = omega (arith, ints, clamps)

-- an order through a number in between
pub at_most_as : (x y z : ℤ) → x ≤ℤ y → y ≤ℤ z → x ≤ℤ z
at_most_as x y z low high = omega (arith, ints)

-- ---- from one set to the other

-- the greatest of what the extremes of two sets differ by, in u and in v, either way
abbrev pub cross : Extremes → Extremes → ℤ
cross extremes others =
    int_max (int_max (extremes.greatest_u -ℤ others.least_u)
    (others.greatest_u -ℤ extremes.least_u))
    (int_max (extremes.greatest_v -ℤ others.least_v) (others.greatest_v -ℤ extremes.least_v))

-- some sink of the one set and some sink of the other have a span of at least that
pub record HasSpan (first second : List Sink) (least : ℤ) : Type 0 where
  pub one : Sink
  pub other : Sink
  pub one_among : Contains first one
  pub other_among : Contains second other
  pub far : least ≤ℤ span one other

-- no span is above the cross of the extremes
pub span_le_cross : (first second : List Sink) (extremes others : Extremes)
    → IsExtremes first extremes → IsExtremes second others → (one other : Sink) → Contains first one
    → Contains second other → span one other ≤ℤ cross extremes others
span_le_cross first second extremes others held other_held one other among other_among =
    let parts =
    le_greatest (extremes.greatest_u -ℤ others.least_u) (others.greatest_u -ℤ extremes.least_u)
    (extremes.greatest_v -ℤ others.least_v) (others.greatest_v -ℤ extremes.least_v) in
    span_le one.offset other.offset one.at.u other.at.u one.at.v other.at.v (cross extremes others)
    (at_most_as _ _ _
    (difference_le _ _ _ _ (held.greatest_u.most one among)
    (other_held.least_u.least other other_among)) parts.0)
    (at_most_as _ _ _
    (difference_le _ _ _ _ (other_held.greatest_u.most other other_among)
    (held.least_u.least one among)) parts.1)
    (at_most_as _ _ _
    (difference_le _ _ _ _ (held.greatest_v.most one among)
    (other_held.least_v.least other other_among)) parts.2)
    (at_most_as _ _ _
    (difference_le _ _ _ _ (other_held.greatest_v.most other other_among)
    (held.least_v.least one among)) parts.3)

-- and one is as much
has_cross : (first second : List Sink) (extremes others : Extremes) → IsExtremes first extremes
    → IsExtremes second others → HasSpan first second (cross extremes others)
has_cross first second extremes others held other_held =
    max_either (HasSpan first second)
    (int_max (extremes.greatest_u -ℤ others.least_u) (others.greatest_u -ℤ extremes.least_u))
    (int_max (extremes.greatest_v -ℤ others.least_v) (others.greatest_v -ℤ extremes.least_v))
    (max_either (HasSpan first second) (extremes.greatest_u -ℤ others.least_u)
    (others.greatest_u -ℤ extremes.least_u) (let one = held.greatest_u.sink in
    let other = other_held.least_u.sink in
    record {
      one = one;
      other = other;
      one_among = held.greatest_u.among;
      other_among = other_held.least_u.among;
      far = search (arith, ints, span_ge_right, one, other);
    })
    (let one = held.least_u.sink in
    let other = other_held.greatest_u.sink in
    record {
      one = one;
      other = other;
      one_among = held.least_u.among;
      other_among = other_held.greatest_u.among;
      far = search (arith, ints, span_ge_left, one, other);
    }))
    (max_either (HasSpan first second) (extremes.greatest_v -ℤ others.least_v)
    (others.greatest_v -ℤ extremes.least_v) (let one = held.greatest_v.sink in
    let other = other_held.least_v.sink in
    record {
      one = one;
      other = other;
      one_among = held.greatest_v.among;
      other_among = other_held.least_v.among;
      far = search (arith, ints, span_ge_up, one, other);
    })
    (let one = held.least_v.sink in
    let other = other_held.greatest_v.sink in
    record {
      one = one;
      other = other;
      one_among = held.least_v.among;
      other_among = other_held.greatest_v.among;
      far = search (arith, ints, span_ge_down, one, other);
    }))

-- numbers of which neither is above the other are the same
pub both_ways : (a b : ℤ) → a ≤ℤ b → b ≤ℤ a → a ≡ b
both_ways a b below above = omega (arith, ints)

-- a span that no other is above is the greatest
pub greatest_from_span : (first second : List Sink) (greatest : ℤ)
    → ((one other : Sink) → Contains first one → Contains second other → span one other ≤ℤ greatest)
    → HasSpan first second greatest → IsGreatestSpan first second greatest
greatest_from_span first second greatest most shown = record {
  most = most;
  one = shown.one;
  other = shown.other;
  one_among = shown.one_among;
  other_among = shown.other_among;
  shown = both_ways (span shown.one shown.other) greatest
      (most shown.one shown.other shown.one_among shown.other_among) shown.far;
}

-- the greatest span of two sets is the cross of their extremes
pub cross_is_greatest : (first second : List Sink) (extremes others : Extremes)
    → IsExtremes first extremes → IsExtremes second others
    → IsGreatestSpan first second (cross extremes others)
cross_is_greatest first second extremes others held other_held =
    search (arith, greatest_from_span, span_le_cross, has_cross)

-- two sets have one greatest span
pub one_greatest_span : (first second : List Sink) (greatest other : ℤ)
    → IsGreatestSpan first second greatest → IsGreatestSpan first second other → greatest ≡ other
one_greatest_span first second greatest other held other_held =
    both_ways greatest other
    (subst (λ z. z ≤ℤ other) held.shown
    (other_held.most held.one held.other held.one_among held.other_among))
    (subst (λ z. z ≤ℤ greatest) other_held.shown
    (held.most other_held.one other_held.other other_held.one_among other_held.other_among))

-- ---- the reach of a set

-- the spread of the extremes is twice the reach
pub spread_is_reach : (sinks : List Sink) (extremes : Extremes) → IsExtremes sinks extremes
    → IsDoubleReach sinks (spread extremes)
spread_is_reach sinks extremes held =
    subst (IsGreatestSpan sinks sinks) (cross-same extremes)
    (cross_is_greatest sinks sinks extremes extremes held held)
  where
    cross-same : (extremes : Extremes) → cross extremes extremes ≡ spread extremes
    cross-same extremes = omega (arith, ints, clamps)

-- twice the reach is the greater of what the extremes differ by
pub reach_is_spread : (sinks : List Sink) (extremes : Extremes) (twice : ℤ)
    → IsExtremes sinks extremes → IsDoubleReach sinks twice ↔ (twice ≡ spread extremes)
reach_is_spread sinks extremes twice held = (
  λ reach. one_greatest_span sinks sinks twice (spread extremes) reach
      (spread_is_reach sinks extremes held),
  λ is. subst (IsGreatestSpan sinks sinks) (sym is) (spread_is_reach sinks extremes held),
)

-- a sink of the greatest sum in u and one of the least difference show the reach that they give
pub sinks_of_u_show : (sinks : List Sink) (extremes : Extremes) (one other : Sink)
    → IsDoubleReach sinks (extremes.greatest_u -ℤ extremes.least_u) → Contains sinks one
    → Contains sinks other → u_above one ≡ extremes.greatest_u → u_below other ≡ extremes.least_u
    → span one other ≡ extremes.greatest_u -ℤ extremes.least_u
sinks_of_u_show sinks extremes one other reach among other_among above below =
    both_ways (span one other) (extremes.greatest_u -ℤ extremes.least_u)
    (reach.most one other among other_among)
    (as_far (u_above one) (u_below other) extremes.greatest_u extremes.least_u (span one other)
    above below (span_ge_right one.offset other.offset one.at.u other.at.u one.at.v other.at.v))

-- and the same in v
pub sinks_of_v_show : (sinks : List Sink) (extremes : Extremes) (one other : Sink)
    → IsDoubleReach sinks (extremes.greatest_v -ℤ extremes.least_v) → Contains sinks one
    → Contains sinks other → v_above one ≡ extremes.greatest_v → v_below other ≡ extremes.least_v
    → span one other ≡ extremes.greatest_v -ℤ extremes.least_v
sinks_of_v_show sinks extremes one other reach among other_among above below =
    both_ways (span one other) (extremes.greatest_v -ℤ extremes.least_v)
    (reach.most one other among other_among)
    (as_far (v_above one) (v_below other) extremes.greatest_v extremes.least_v (span one other)
    above below (span_ge_up one.offset other.offset one.at.u other.at.u one.at.v other.at.v))

-- a span is the same either way
pub span_is_symmetric : (one other : Sink) → span one other ≡ span other one
span_is_symmetric one other =
    span-swap one.offset other.offset one.at.u other.at.u one.at.v other.at.v
