-- Two sets of sinks merged, by the rectangles of their regions alone.
use Rattle.tilted_rect.proofs.Vocabulary.{◌≡◌, List, [], ◌∷◌, ℤ, pos, ◌+ℤ◌, ◌-ℤ◌, ◌≤ℤ◌, ◌<ℤ◌, ◌⊎◌, inl, inr, sym, subst, arith, Contains, ints, clamps, by_lt_z, int_max, int_min, Sink, apart, span, IsGreatestSpan, IsDoubleReach, IsUnion, u_above, u_below, v_above, v_below, Extremes, IsExtremes, spread, joined, joined_twice, HasExtremeSides, IsRegion, IsGrown, IsMeeting, between, HasSides, gap_of, Rect}
use Rattle.tilted_rect.proofs.ExtremeLemmas.{extremes_one, extremes_union}
use Rattle.tilted_rect.proofs.RectLemmas.{max_either}
use Rattle.tilted_rect.proofs.RegionLemmas.{region_extremes, region_from_sides, sides_from_region}
use Rattle.tilted_rect.proofs.SpanLemmas.{cross, HasSpan, span_le_cross, cross_is_greatest, greatest_from_span, one_greatest_span, spread_is_reach, at_most_as, span_is_symmetric}

-- ---- a sink alone

pub sink_reach : (sink : Sink) → IsDoubleReach (sink ∷ []) (sink.offset +ℤ sink.offset)
sink_reach sink = subst (IsDoubleReach (sink ∷ [])) (spread_one sink.at.u sink.at.v sink.offset)
    (spread_is_reach (sink ∷ [])
    (record {
      greatest_u = u_above sink;
      least_u = u_below sink;
      greatest_v = v_above sink;
      least_v = v_below sink;
    }) (extremes_one sink))
  where
    spread_one : (u v offset : ℤ)
        → int_max ((u +ℤ offset) -ℤ (u -ℤ offset)) ((v +ℤ offset) -ℤ (v -ℤ offset))
        ≡ offset +ℤ offset
    spread_one u v offset = omega (arith, ints, clamps)

pub sink_region : (sink : Sink) (rect : Rect)
    → HasSides rect sink.at.u sink.at.u sink.at.v sink.at.v → IsRegion rect (sink ∷ []) sink.offset
sink_region sink rect sides =
    region_from_sides (sink ∷ [])
    (record {
      greatest_u = u_above sink;
      least_u = u_below sink;
      greatest_v = v_above sink;
      least_v = v_below sink;
    }) rect sink.offset (extremes_one sink)
    (record {
      ulo = low rect.ulo sink.at.u sides.ulo;
      uhi = high rect.uhi sink.at.u sides.uhi;
      vlo = low rect.vlo sink.at.v sides.vlo;
      vhi = high rect.vhi sink.at.v sides.vhi;
    })
  where
    low : (side place : ℤ) → side ≡ place → side ≡ (place +ℤ sink.offset) -ℤ sink.offset
    low side place is = omega (arith, ints)

    high : (side place : ℤ) → side ≡ place → side ≡ (place -ℤ sink.offset) +ℤ sink.offset
    high side place is = omega (arith, ints)

-- ---- grown regions

-- the sides of a region grown to another radius
grown_low : (side grown greatest radius wide : ℤ) → side ≡ greatest -ℤ radius
    → grown ≡ side -ℤ (wide -ℤ radius) → grown ≡ greatest -ℤ wide
grown_low side grown greatest radius wide is grown_is = omega (arith, ints)

grown_high : (side grown least radius wide : ℤ) → side ≡ least +ℤ radius
    → grown ≡ side +ℤ (wide -ℤ radius) → grown ≡ least +ℤ wide
grown_high side grown least radius wide is grown_is = omega (arith, ints)

grown_sides : (rect grown : Rect) (extremes : Extremes) (radius wide : ℤ)
    → HasExtremeSides rect extremes radius → IsGrown rect (wide -ℤ radius) grown
    → HasExtremeSides grown extremes wide
grown_sides rect grown extremes radius wide sides grown_is = search (arith, grown_low, grown_high)

-- the sides of where two regions of one radius meet
meeting_low : (a b common greatest other wide : ℤ) → a ≡ greatest -ℤ wide → b ≡ other -ℤ wide
    → common ≡ int_max a b → common ≡ int_max greatest other -ℤ wide
meeting_low a b common greatest other wide is other_is common_is = omega (arith, ints, clamps)

meeting_high : (a b common least other wide : ℤ) → a ≡ least +ℤ wide → b ≡ other +ℤ wide
    → common ≡ int_min a b → common ≡ int_min least other +ℤ wide
meeting_high a b common least other wide is other_is common_is = omega (arith, ints, clamps)

meeting_sides : (rect other common : Rect) (extremes others : Extremes) (wide : ℤ)
    → HasExtremeSides rect extremes wide → HasExtremeSides other others wide
    → IsMeeting rect other common → HasExtremeSides common (joined extremes others) wide
meeting_sides rect other common extremes others wide sides other_sides meeting =
    search (arith, meeting_low, meeting_high)

-- the grown regions of two sets meet in the region of the union
pub grown_regions_meet_in_region : (first second both : List Sink)
    (rect other grown other_grown common : Rect) (radius other_radius wide : ℤ)
    → IsUnion first second both → IsRegion rect first radius → IsRegion other second other_radius
    → IsGrown rect (wide -ℤ radius) grown → IsGrown other (wide -ℤ other_radius) other_grown
    → IsMeeting grown other_grown common → IsRegion common both wide
grown_regions_meet_in_region first second both rect other grown other_grown common radius
    other_radius wide union region other_region grown_is other_grown_is meeting =
    let one = region_extremes first rect radius region in
    let two = region_extremes second other other_radius other_region in
    let sides = grown_sides rect grown one.0 radius wide
    (sides_from_region first one.0 rect radius one.1 region) grown_is in
    let other_sides = grown_sides other other_grown two.0 other_radius wide
    (sides_from_region second two.0 other other_radius two.1 other_region) other_grown_is in
    region_from_sides both (joined one.0 two.0) common wide
    (extremes_union first second both one.0 two.0 union one.1 two.1)
    (meeting_sides grown other_grown common one.0 two.0 wide sides other_sides meeting)

-- intervals between extremes that differ by no more than twice the radius meet
meet_axis : (greatest least other_greatest other_least lo hi other_lo other_hi wide twice : ℤ)
    → lo ≡ greatest -ℤ wide → hi ≡ least +ℤ wide → other_lo ≡ other_greatest -ℤ wide
    → other_hi ≡ other_least +ℤ wide
    → (int_max greatest other_greatest -ℤ int_min least other_least) ≤ℤ twice
    → twice ≤ℤ (wide +ℤ wide) → between lo hi other_lo other_hi ≡ pos 0
meet_axis greatest least other_greatest other_least lo hi other_lo other_hi wide twice lo_is hi_is
    other_lo_is other_hi_is spread within = omega (arith, ints, clamps)

-- where both numbers are 0, so is the greater
max_of_none : (a b : ℤ) → a ≡ pos 0 → b ≡ pos 0 → int_max a b ≡ pos 0
max_of_none a b first second = omega (arith, ints, clamps)

-- both numbers are at most the greater
max_above : (a b c : ℤ) → c ≡ int_max a b → (a ≤ℤ c) × (b ≤ℤ c)
max_above a b c is = (omega (arith, ints, clamps), omega (arith, ints, clamps))

-- where the common radius is at least the reach of the union, the grown regions meet
pub grown_regions_meet : (first second both : List Sink) (rect other grown other_grown : Rect)
    (radius other_radius wide twice : ℤ) → IsUnion first second both → IsRegion rect first radius
    → IsRegion other second other_radius → IsGrown rect (wide -ℤ radius) grown
    → IsGrown other (wide -ℤ other_radius) other_grown → IsDoubleReach both twice
    → twice ≤ℤ (wide +ℤ wide) → gap_of grown other_grown ≡ pos 0
grown_regions_meet first second both rect other grown other_grown radius other_radius wide twice
    union region other_region grown_is other_grown_is reach within =
    let one = region_extremes first rect radius region in
    let two = region_extremes second other other_radius other_region in
    let sides = grown_sides rect grown one.0 radius wide
    (sides_from_region first one.0 rect radius one.1 region) grown_is in
    let other_sides = grown_sides other other_grown two.0 other_radius wide
    (sides_from_region second two.0 other other_radius two.1 other_region) other_grown_is in
    let all = joined one.0 two.0 in
    let is : twice ≡ spread all = one_greatest_span both both twice (spread all) reach
    (spread_is_reach both all (extremes_union first second both one.0 two.0 union one.1 two.1)) in
    let parts =
    max_above (all.greatest_u -ℤ all.least_u) (all.greatest_v -ℤ all.least_v) twice is in
    max_of_none (between grown.ulo grown.uhi other_grown.ulo other_grown.uhi)
    (between grown.vlo grown.vhi other_grown.vlo other_grown.vhi)
    (meet_axis one.0.greatest_u one.0.least_u two.0.greatest_u two.0.least_u grown.ulo grown.uhi
    other_grown.ulo other_grown.uhi wide twice sides.ulo sides.uhi other_sides.ulo other_sides.uhi
    parts.0 within)
    (meet_axis one.0.greatest_v one.0.least_v two.0.greatest_v two.0.least_v grown.vlo grown.vhi
    other_grown.vlo other_grown.vhi wide twice sides.vlo sides.vhi other_sides.vlo other_sides.vhi
    parts.1 within)

-- ---- the gap of two regions

-- on one axis, how far the intervals are apart
gap_axis : (greatest least other_greatest other_least lo hi other_lo other_hi radius
    other_radius : ℤ) → lo ≡ greatest -ℤ radius → hi ≡ least +ℤ radius
    → other_lo ≡ other_greatest -ℤ other_radius → other_hi ≡ other_least +ℤ other_radius
    → between lo hi other_lo other_hi ≡ int_max
    (int_max (greatest -ℤ other_least) (other_greatest -ℤ least) -ℤ (radius +ℤ other_radius))
    (pos 0)
gap_axis greatest least other_greatest other_least lo hi other_lo other_hi radius other_radius lo_is
    hi_is other_lo_is other_hi_is = omega (arith, ints, clamps)

-- the greater of what two numbers are above a third, if anything
gap_join : (a b c d radii : ℤ) → c ≡ int_max (a -ℤ radii) (pos 0) → d ≡ int_max (b -ℤ radii) (pos 0)
    → int_max c d ≡ int_max (int_max a b -ℤ radii) (pos 0)
gap_join a b c d radii first second = omega (arith, ints, clamps)

-- the gap is what the greatest span from one set to the other is above both radii, if anything
gap_is : (rect other : Rect) (extremes others : Extremes) (radius other_radius : ℤ)
    → HasExtremeSides rect extremes radius → HasExtremeSides other others other_radius
    → gap_of rect other ≡ int_max (cross extremes others -ℤ (radius +ℤ other_radius)) (pos 0)
gap_is rect other extremes others radius other_radius sides other_sides =
    search (arith, gap_join, gap_axis)

-- the same, for what a caller knows of two regions
regions_gap : (first second : List Sink) (rect other : Rect) (radius other_radius : ℤ)
    (extremes others : Extremes) → IsExtremes first extremes → IsExtremes second others
    → IsRegion rect first radius → IsRegion other second other_radius
    → gap_of rect other ≡ int_max (cross extremes others -ℤ (radius +ℤ other_radius)) (pos 0)
regions_gap first second rect other radius other_radius extremes others held other_held region
    other_region = search (arith, gap_is, sides_from_region)

-- a number above another by the gap, where there is one
above_by_gap : (across radii gap : ℤ) → gap ≡ int_max (across -ℤ radii) (pos 0) → pos 0 <ℤ gap
    → across ≡ radii +ℤ gap
above_by_gap across radii gap is apart = omega (arith, ints, clamps)

not_above : (across radii gap : ℤ) → gap ≡ int_max (across -ℤ radii) (pos 0)
    → across ≤ℤ (radii +ℤ gap)
not_above across radii gap is = omega (arith, ints, clamps)

-- where two regions are apart, their radii and their gap are the greatest span from one set to the
-- other
pub gap_is_greatest_span : (first second : List Sink) (rect other : Rect) (radius other_radius : ℤ)
    → IsRegion rect first radius → IsRegion other second other_radius → pos 0 <ℤ gap_of rect other
    → IsGreatestSpan first second (radius +ℤ other_radius +ℤ gap_of rect other)
gap_is_greatest_span first second rect other radius other_radius region other_region apart =
    let one = region_extremes first rect radius region in
    let two = region_extremes second other other_radius other_region in
    subst (IsGreatestSpan first second)
    (above_by_gap (cross one.0 two.0) (radius +ℤ other_radius) (gap_of rect other)
    (regions_gap first second rect other radius other_radius one.0 two.0 one.1 two.1 region
    other_region) apart)
    (cross_is_greatest first second one.0 two.0 one.1 two.1)

-- no span from one set to the other is above the radii and the gap
pub span_within_gap : (first second : List Sink) (rect other : Rect) (radius other_radius : ℤ)
    → IsRegion rect first radius → IsRegion other second other_radius → (one far : Sink)
    → Contains first one → Contains second far
    → span one far ≤ℤ (radius +ℤ other_radius +ℤ gap_of rect other)
span_within_gap first second rect other radius other_radius region other_region sink far among
    far_among =
    let one = region_extremes first rect radius region in
    let two = region_extremes second other other_radius other_region in
    let within = not_above (cross one.0 two.0) (radius +ℤ other_radius) (gap_of rect other)
    (regions_gap first second rect other radius other_radius one.0 two.0 one.1 two.1 region
    other_region) in
    at_most_as (span sink far) (cross one.0 two.0) (radius +ℤ other_radius +ℤ gap_of rect other)
    (span_le_cross first second one.0 two.0 one.1 two.1 sink far among far_among) within

-- so where they meet, none is above the radii
pub no_gap_no_greater_span : (first second : List Sink) (rect other : Rect)
    (radius other_radius : ℤ) → IsRegion rect first radius → IsRegion other second other_radius
    → gap_of rect other ≡ pos 0 → (one far : Sink) → Contains first one → Contains second far
    → span one far ≤ℤ (radius +ℤ other_radius)
no_gap_no_greater_span first second rect other radius other_radius region other_region none one far
    among far_among =
    without (span one far) (radius +ℤ other_radius) (gap_of rect other) none
    (span_within_gap first second rect other radius other_radius region other_region one far among
    far_among)
  where
    without : (span radii gap : ℤ) → gap ≡ pos 0 → span ≤ℤ (radii +ℤ gap) → span ≤ℤ radii
    without span radii gap none within = omega (arith, ints)

-- ---- the reach of a union

-- each of three numbers is at most the greatest
le_greatest_of_three : (a b c z : ℤ) → ((z ≤ℤ a) ⊎ (z ≤ℤ b)) ⊎ (z ≤ℤ c)
    → z ≤ℤ int_max (int_max a b) c
le_greatest_of_three a b c z (inl (inl first)) = omega (arith, ints, clamps)
le_greatest_of_three a b c z (inl (inr second)) = omega (arith, ints, clamps)
le_greatest_of_three a b c z (inr third) = omega (arith, ints, clamps)

-- of two sets with a span of at least that, a span of a set that has the sinks of both
span_among : (first second both others : List Sink) (least lower : ℤ)
    → ((sink : Sink) → Contains first sink → Contains both sink)
    → ((sink : Sink) → Contains second sink → Contains others sink)
    → IsGreatestSpan first second least → lower ≤ℤ least → HasSpan both others lower
span_among first second both others least lower into other_into greatest below = record {
  one = greatest.one;
  other = greatest.other;
  one_among = into greatest.one greatest.one_among;
  other_among = other_into greatest.other greatest.other_among;
  far = subst (λ z. lower ≤ℤ z) (sym greatest.shown) below;
}

module _ (first second both : List Sink) (rect other : Rect) (radius other_radius : ℤ)
    (union : IsUnion first second both) (reach : IsDoubleReach first (radius +ℤ radius))
    (other_reach : IsDoubleReach second (other_radius +ℤ other_radius))
    (region : IsRegion rect first radius) (other_region : IsRegion other second other_radius) where
  -- twice the reach of the union
  abbrev union_twice : ℤ
  union_twice = joined_twice radius other_radius (gap_of rect other)

  -- no span within the union is above it
  union_most : (one far : Sink) → Contains both one → Contains both far
      → span one far ≤ℤ union_twice
  union_most one far among far_among =
      le_greatest_of_three (radius +ℤ radius) (other_radius +ℤ other_radius)
      (radius +ℤ other_radius +ℤ gap_of rect other) (span one far)
      (at (union.from_either one among) (union.from_either far far_among))
    where
      across : (one far : Sink) → Contains first one → Contains second far
          → span one far ≤ℤ (radius +ℤ other_radius +ℤ gap_of rect other)
      across = span_within_gap first second rect other radius other_radius region other_region

      at : Contains first one ⊎ Contains second one → Contains first far ⊎ Contains second far
          → ((span one far ≤ℤ (radius +ℤ radius))
          ⊎ (span one far ≤ℤ (other_radius +ℤ other_radius)))
          ⊎ (span one far ≤ℤ (radius +ℤ other_radius +ℤ gap_of rect other))
      at (inl held) (inl far_held) = inl (inl (reach.most one far held far_held))
      at (inr held) (inr far_held) = inl (inr (other_reach.most one far held far_held))
      at (inl held) (inr far_held) = inr (across one far held far_held)
      at (inr held) (inl far_held) =
          inr (subst (λ z. z ≤ℤ (radius +ℤ other_radius +ℤ gap_of rect other))
          (span_is_symmetric far one) (across far one far_held held))

  -- and one is as much: where the regions meet, one within a part
  union_within : (lower : ℤ) → lower ≤ℤ int_max (radius +ℤ radius) (other_radius +ℤ other_radius)
      → HasSpan both both lower
  union_within lower below =
      by_lt_z (radius +ℤ radius) (other_radius +ℤ other_radius)
      (λ less. span_among second second both both (other_radius +ℤ other_radius) lower
      union.second_in union.second_in other_reach (omega (arith, ints, clamps)))
      (λ more. span_among first first both both
      (radius +ℤ radius) lower union.first_in union.first_in reach (omega (arith, ints, clamps)))

  union_shown : HasSpan both both union_twice
  union_shown =
      max_either (HasSpan both both) (int_max (radius +ℤ radius) (other_radius +ℤ other_radius))
      (radius +ℤ other_radius +ℤ gap_of rect other)
      (union_within (int_max (radius +ℤ radius) (other_radius +ℤ other_radius))
      (omega (arith, ints)))
      (by_lt_z (pos 0) (gap_of rect other)
      (λ apart. span_among first second both both (radius +ℤ other_radius +ℤ gap_of rect other)
      (radius +ℤ other_radius +ℤ gap_of rect other) union.first_in union.second_in
      (gap_is_greatest_span first second rect other radius other_radius region other_region apart)
      (omega (arith, ints)))
      (λ none.
      union_within (radius +ℤ other_radius +ℤ gap_of rect other) (mean (gap_of rect other) none)))
    where
      mean : (gap : ℤ) → gap ≤ℤ pos 0
          → (radius +ℤ other_radius +ℤ gap)
          ≤ℤ int_max (radius +ℤ radius) (other_radius +ℤ other_radius)
      mean gap none = omega (arith, ints, clamps)

  -- the reach of a union by the reaches and the gap of its parts
  pub union_reach : IsDoubleReach both union_twice
  union_reach = greatest_from_span both both union_twice union_most union_shown
