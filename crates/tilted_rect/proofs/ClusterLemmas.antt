-- Clusters of sinks that trees are made over: how large their numbers are, and how two are joined.
use Rattle.tilted_rect.proofs.Vocabulary.{◌≡◌, ◌↔◌, ◌<ℤ◌, Option, Some, None, ◌*◌, ◌^◌, List, [], ◌∷◌, ◌++◌, ℤ, pos, ◌+ℤ◌, ◌-ℤ◌, ◌≤ℤ◌, refl, sym, subst, arith, Contains, All, ints, clamps, to_z-of_z, All-contains, All-append, All-nil, All-cons, int_max, Sink, IsBelow, IsMultipleOf, IsDoubleReach, IsUnion, bound, between, HasSides, CanGrowBy, gap_of, Rect}
use Rattle.std.specs.Option.{IsSome, IsNone, IfSome}
use Rattle.std.proofs.Math.Logic.{∥∥₁_elim, ∥∥₁_map, ∥∥₁_prop}
use Rattle.std.proofs.Props.{props}
use Rattle.cts_model.specs.Vocabulary.{IsTreeSink}
use Rattle.tilted_rect.specs.Clusters.{IsReachAndRegion, HasTreeSinks}
use Rattle.tilted_rect.specs.ClusterSets.{IsCluster}
use Rattle.tilted_rect.specs.Extremes.{Extremes, IsExtremes, joined as joined_extremes, spread, IsGrown, IsMeeting, AreMultiplesOf, joined_twice}
use Rattle.tilted_rect.specs.declared.cluster.Cluster.{Cluster}
use Rattle.tilted_rect.proofs.CodeNumbers.{kept, difference_read, sum_read}
use Rattle.tilted_rect.proofs.ExtremeLemmas.{append_is_union, extremes_union}
use Rattle.tilted_rect.proofs.MergeLemmas.{sink_reach, sink_region, grown_regions_meet_in_region, grown_regions_meet, union_reach}
use Rattle.tilted_rect.proofs.MultipleLemmas.{greatest_span_is_multiple}
use Rattle.tilted_rect.proofs.RectLemmas.{max_either}
use Rattle.tilted_rect.proofs.RegionLemmas.{region_extremes, sides_from_region}
use Rattle.tilted_rect.proofs.SpanLemmas.{one_greatest_span, spread_is_reach}

-- ---- how large the numbers are

-- the sum and the difference of a coordinate and an offset
sum_below : (at offset number : ℤ) → IsBelow (10 ^ 31) at → IsBelow (10 ^ 31) offset
    → at +ℤ offset ≡ number → IsBelow (2 * 10 ^ 31) number
sum_below at offset number place length is = omega (arith, ints)

difference_below : (at offset number : ℤ) → IsBelow (10 ^ 31) at → IsBelow (10 ^ 31) offset
    → at -ℤ offset ≡ number → IsBelow (2 * 10 ^ 31) number
difference_below at offset number place length is = omega (arith, ints)

-- the extremes of tree sinks are small
record AreSmall (extremes : Extremes) : Type 0 where
  pub greatest_u : IsBelow (2 * 10 ^ 31) extremes.greatest_u
  pub least_u : IsBelow (2 * 10 ^ 31) extremes.least_u
  pub greatest_v : IsBelow (2 * 10 ^ 31) extremes.greatest_v
  pub least_v : IsBelow (2 * 10 ^ 31) extremes.least_v

small_extremes : (sinks : List Sink) (extremes : Extremes) → All IsTreeSink sinks
    → IsExtremes sinks extremes → AreSmall extremes
small_extremes sinks extremes each held = record {
  greatest_u = let is = held.greatest_u in let sink = All-contains IsTreeSink sinks is.sink each
      is.among in sum_below is.sink.at.u is.sink.offset extremes.greatest_u sink.at_below.u
      sink.offset_below is.attained;
  least_u = let is = held.least_u in let sink = All-contains IsTreeSink sinks is.sink each is.among
      in difference_below is.sink.at.u is.sink.offset extremes.least_u sink.at_below.u
      sink.offset_below is.attained;
  greatest_v = let is = held.greatest_v in let sink = All-contains IsTreeSink sinks is.sink each
      is.among in sum_below is.sink.at.v is.sink.offset extremes.greatest_v sink.at_below.v
      sink.offset_below is.attained;
  least_v = let is = held.least_v in let sink = All-contains IsTreeSink sinks is.sink each is.among
      in difference_below is.sink.at.v is.sink.offset extremes.least_v sink.at_below.v
      sink.offset_below is.attained;
}

-- places and offsets of tree sinks are multiples of 8
tree_multiples : (sinks : List Sink) → All IsTreeSink sinks → AreMultiplesOf 8 sinks
tree_multiples sinks each = search (arith, All-contains)

spread_below : (twice a b c d : ℤ) → twice ≡ int_max (a -ℤ b) (c -ℤ d) → IsBelow (2 * 10 ^ 31) a
    → IsBelow (2 * 10 ^ 31) b → IsBelow (2 * 10 ^ 31) c → IsBelow (2 * 10 ^ 31) d
    → IsBelow (4 * 10 ^ 31) twice
spread_below twice a b c d is one two three four = omega (arith, ints, clamps)

-- twice the reach of tree sinks
pub record IsTwice (twice : ℤ) : Type 0 where
  pub below : IsBelow (4 * 10 ^ 31) twice
  pub multiple : IsMultipleOf 8 twice

pub tree_twice : (sinks : List Sink) (extremes : Extremes) (twice : ℤ) → All IsTreeSink sinks
    → IsExtremes sinks extremes → IsDoubleReach sinks twice → IsTwice twice
tree_twice sinks extremes twice each held reach =
    let small = small_extremes sinks extremes each held in
    let is : twice ≡ spread extremes = one_greatest_span sinks sinks twice (spread extremes) reach
    (spread_is_reach sinks extremes held) in
    let multiples = tree_multiples sinks each in
    record {
      below = spread_below twice extremes.greatest_u extremes.least_u extremes.greatest_v
          extremes.least_v is small.greatest_u small.least_u small.greatest_v small.least_v;
      multiple = greatest_span_is_multiple sinks sinks twice multiples multiples reach;
    }

-- how far two intervals are apart
between_below : (lo hi other_lo other_hi : ℤ) → IsBelow bound lo → IsBelow bound hi
    → IsBelow bound other_lo → IsBelow bound other_hi
    → IsBelow (2 * bound) (between lo hi other_lo other_hi)
between_below lo hi other_lo other_hi one two three four = omega (arith, ints, clamps)

-- the gap of two rectangles
gap_below : (rect other : Rect) → IsBelow (2 * bound) (gap_of rect other)
gap_below rect other = max_either (IsBelow (2 * bound)) _ _
    (between_below rect.ulo rect.uhi other.ulo other.uhi rect.valid.least_u.below
    rect.valid.greatest_u.below other.valid.least_u.below other.valid.greatest_u.below)
    (between_below rect.vlo rect.vhi other.vlo other.vhi rect.valid.least_v.below
    rect.valid.greatest_v.below other.valid.least_v.below other.valid.greatest_v.below)

-- how far two reaches are apart, as the code has it
pub reaches_apart : (a b : ℤ) → IsBelow (10 ^ 32) a → IsBelow (10 ^ 32) b
    → kept (kept a -ℤ kept b) ≡ a -ℤ b
reaches_apart a b one two = difference_read a b (omega (arith, ints)) (omega (arith, ints))
    (omega (arith, ints))

-- what the wire grows by
pub cost_below : (rect other : Rect) (reach other_reach cost : ℤ) → IsBelow (10 ^ 32) reach
    → IsBelow (10 ^ 32) other_reach
    → cost ≡ int_max (int_max (gap_of rect other) (reach -ℤ other_reach)) (other_reach -ℤ reach)
    → IsBelow (10 ^ 34) cost
cost_below rect other reach other_reach cost small other_small is = greatest (gap_of rect other)
    (gap_below rect other) is
  where
    greatest : (gap : ℤ) → IsBelow (2 * bound) gap
        → cost ≡ int_max (int_max gap (reach -ℤ other_reach)) (other_reach -ℤ reach)
        → IsBelow (10 ^ 34) cost
    greatest gap within same = omega (arith, ints, clamps, small, other_small)

-- ---- a cluster of one sink

pub one_tree_sink : (sink : Sink) → IsTreeSink sink → All IsTreeSink (sink ∷ [])
one_tree_sink sink held = All-cons IsTreeSink sink [] held (All-nil IsTreeSink)

pub one_sink : (sink : Sink) (rect : Rect) (reach : ℤ) → reach ≡ sink.offset
    → HasSides rect sink.at.u sink.at.u sink.at.v sink.at.v
    → IsReachAndRegion (sink ∷ []) reach rect
one_sink sink rect reach is sides = subst (λ z. IsReachAndRegion (sink ∷ []) z rect) (sym is)
    (record { reach = sink_reach sink; region = sink_region sink rect sides })

-- ---- two clusters joined

-- what the wire grows by, by the gap and the reaches
cost_is : (reach other_reach gap : ℤ)
    → joined_twice reach other_reach gap ≡ reach +ℤ other_reach +ℤ int_max
    (int_max gap (reach -ℤ other_reach)) (other_reach -ℤ reach)
cost_is reach other_reach gap = omega (arith, ints, clamps)

pub cost_reach : (first second both : List Sink) (reach other_reach cost : ℤ) (rect other : Rect)
    → IsUnion first second both → IsReachAndRegion first reach rect
    → IsReachAndRegion second other_reach other
    → cost ≡ int_max (int_max (gap_of rect other) (reach -ℤ other_reach)) (other_reach -ℤ reach)
    → IsDoubleReach both (reach +ℤ other_reach +ℤ cost)
cost_reach first second both reach other_reach cost rect other union held other_held is =
    subst (λ z. IsDoubleReach both (reach +ℤ other_reach +ℤ z)) (sym is)
    (subst (IsDoubleReach both) (cost_is reach other_reach (gap_of rect other))
    (union_reach first second both rect other reach other_reach union held.reach
    other_held.reach held.region other_held.region))

-- the reach of some sinks is no more than that of more sinks
reach_grows : (first both : List Sink) (twice more : ℤ)
    → ((sink : Sink) → Contains first sink → Contains both sink) → IsDoubleReach first twice
    → IsDoubleReach both more → twice ≤ℤ more
reach_grows first both twice more among reach wide = subst (λ z. z ≤ℤ more) reach.shown
    (wide.most reach.one reach.other (among reach.one reach.one_among)
    (among reach.other reach.other_among))

-- twice the reach of the sinks of two clusters, whichever sinks those are
abbrev pub IsJoinedTwice : (self other : Cluster) → ℤ → Type 0
IsJoinedTwice self other twice = (first second both : List Sink) → IsUnion first second both
    → IsCluster first self → IsCluster second other → IsDoubleReach both twice

-- it is small, and no less than twice the reach of either
pub record IsJoining (reach other_reach twice : ℤ) : Type 0 where
  pub is : IsTwice twice
  pub least : (reach +ℤ reach) ≤ℤ twice
  pub other_least : (other_reach +ℤ other_reach) ≤ℤ twice

one_joining : (reach other_reach twice : ℤ) → IsProp (IsJoining reach other_reach twice)
one_joining reach other_reach twice = hlevel props

pub joining : (self other : Cluster) (twice : ℤ) → IsJoinedTwice self other twice
    → IsJoining self.reach other.reach twice
joining self other twice joined =
    ∥∥₁_elim self.sinks (one_joining self.reach other.reach twice)
    (λ one. ∥∥₁_elim other.sinks (one_joining self.reach other.reach twice)
    (λ two. with one two))
  where
    with : HasTreeSinks self.reach self.region → HasTreeSinks other.reach other.region
        → IsJoining self.reach other.reach twice
    with one two =
        let both = one.sinks ++ two.sinks in
        let union = append_is_union one.sinks two.sinks in
        let reach = joined one.sinks two.sinks both union one.held two.held in
        let extremes = region_extremes one.sinks self.region self.reach one.held.region in
        let others = region_extremes two.sinks other.region other.reach two.held.region in
        record {
          is = tree_twice both (joined_extremes extremes.0 others.0) twice
              (All-append IsTreeSink one.sinks two.sinks one.each two.each)
              (extremes_union one.sinks two.sinks both extremes.0 others.0 union extremes.1
              others.1) reach;
          least = reach_grows one.sinks both _ twice union.first_in one.held.reach reach;
          other_least = reach_grows two.sinks both _ twice union.second_in two.held.reach reach;
        }

-- half of it is a reach of both
pub record IsJoinedReach (self other : Cluster) (reach : ℤ) : Type 0 where
  pub both : IsJoinedTwice self other (reach +ℤ reach)
  pub below : IsBelow (10 ^ 32) reach
  pub multiple : IsMultipleOf 4 reach
  pub least : self.reach ≤ℤ reach
  pub other_least : other.reach ≤ℤ reach

half_joining : (half twice : ℤ) → half +ℤ half ≡ twice → IsTwice twice → IsBelow (10 ^ 32) half
    × IsMultipleOf 4 half
half_joining half twice is held =
    (omega (arith, ints, held.below), omega (arith, ints, held.multiple))

half_least : (reach half twice : ℤ) → half +ℤ half ≡ twice → (reach +ℤ reach) ≤ℤ twice
    → reach ≤ℤ half
half_least reach half twice is least = omega (arith, ints)

pub half_is : (self other : Cluster) (half twice : ℤ) → half +ℤ half ≡ twice
    → IsJoinedTwice self other twice → IsJoinedReach self other half
half_is self other half twice is joined =
    let held = joining self other twice joined in
    let parts = half_joining half twice is held.is in
    record {
      both = subst (IsJoinedTwice self other) (sym is) joined;
      below = parts.0;
      multiple = parts.1;
      least = half_least self.reach half twice is held.least;
      other_least = half_least other.reach half twice is held.other_least;
    }

even_joining : (twice : ℤ) → IsTwice twice → IsMultipleOf 2 twice
even_joining twice held = omega (arith, ints, held.multiple)

-- twice the reach as the code has it
pub reaches_summed : (a b cost : ℤ) → IsBelow (10 ^ 32) a → IsBelow (10 ^ 32) b
    → IsBelow (10 ^ 34) cost → kept (kept (kept a +ℤ kept b) +ℤ kept cost) ≡ a +ℤ b +ℤ cost
reaches_summed a b cost one two three = search (arith, kept, sum_read, ints, to_z-of_z)

pub even_twice : (self other : Cluster) (twice : ℤ) → IsJoinedTwice self other twice
    → IsMultipleOf 2 twice
even_twice self other twice joined = even_joining twice (joining self other twice joined).is

-- the sides of a region at another radius
pub sides_below : (side greatest radius wide : ℤ) → side ≡ greatest -ℤ radius
    → IsBelow (2 * 10 ^ 31) greatest → IsBelow (10 ^ 32) wide
    → IsBelow bound (side -ℤ (wide -ℤ radius))
sides_below side greatest radius wide is small within = omega (arith, ints)

sides_above : (side least radius wide : ℤ) → side ≡ least +ℤ radius → IsBelow (2 * 10 ^ 31) least
    → IsBelow (10 ^ 32) wide → IsBelow bound (side +ℤ (wide -ℤ radius))
sides_above side least radius wide is small within = omega (arith, ints)

one_room : (rect : Rect) (by : ℤ) → IsProp (CanGrowBy rect by)
one_room rect by = hlevel props

-- a cluster's region has room to grow to a small reach
pub has_room : (self : Cluster) (wide : ℤ) → IsBelow (10 ^ 32) wide
    → CanGrowBy self.region (wide -ℤ self.reach)
has_room self wide within = ∥∥₁_elim self.sinks (one_room self.region (wide -ℤ self.reach)) with
  where
    with : HasTreeSinks self.reach self.region → CanGrowBy self.region (wide -ℤ self.reach)
    with one =
        let extremes = region_extremes one.sinks self.region self.reach one.held.region in
        let small = small_extremes one.sinks extremes.0 one.each extremes.1 in
        let sides = sides_from_region one.sinks extremes.0 self.region self.reach extremes.1
        one.held.region in
        record {
          ulo = sides_below self.region.ulo extremes.0.greatest_u self.reach wide sides.ulo
              small.greatest_u within;
          uhi = sides_above self.region.uhi extremes.0.least_u self.reach wide sides.uhi
              small.least_u within;
          vlo = sides_below self.region.vlo extremes.0.greatest_v self.reach wide sides.vlo
              small.greatest_v within;
          vhi = sides_above self.region.vhi extremes.0.least_v self.reach wide sides.vhi
              small.least_v within;
        }

-- at the reach of both the grown regions meet
pub clusters_meet : (self other : Cluster) (reach wide : ℤ) (grown other_grown : Rect)
    → wide ≡ reach → IsJoinedTwice self other (reach +ℤ reach)
    → IsGrown self.region (wide -ℤ self.reach) grown
    → IsGrown other.region (wide -ℤ other.reach) other_grown → gap_of grown other_grown ≡ pos 0
clusters_meet self other reach wide grown other_grown is joined grown_is other_grown_is =
    ∥∥₁_elim self.sinks (one_number (gap_of grown other_grown) (pos 0))
    (λ one. ∥∥₁_elim other.sinks (one_number (gap_of grown other_grown) (pos 0))
    (λ two. grown_regions_meet one.sinks two.sinks (one.sinks ++ two.sinks) self.region other.region
    grown other_grown self.reach other.reach wide (reach +ℤ reach)
    (append_is_union one.sinks two.sinks) one.held.region two.held.region grown_is other_grown_is
    (joined one.sinks two.sinks (one.sinks ++ two.sinks)
    (append_is_union one.sinks two.sinks) one.held two.held)
    (omega (arith, ints, is))))
  where
    one_number : (a b : ℤ) → IsProp (a ≡ b)
    one_number a b = hlevel props

-- and their common rectangle is the region of both
pub joined_is : (self other : Cluster) (reach wide : ℤ) (grown other_grown common : Rect)
    (found : Option Rect) → wide ≡ reach → IsJoinedTwice self other (reach +ℤ reach)
    → IsGrown self.region (wide -ℤ self.reach) grown
    → IsGrown other.region (wide -ℤ other.reach) other_grown → found ≡ Some common
    → IfSome found (IsMeeting grown other_grown) → (first second both : List Sink)
    → IsUnion first second both → IsCluster first self → IsCluster second other
    → IsReachAndRegion both wide common
joined_is self other reach wide grown other_grown common found is joined grown_is other_grown_is
    some meeting first second both union one two = record {
      reach = subst (λ z. IsDoubleReach both (z +ℤ z)) (sym is)
          (joined first second both union one two);
      region = grown_regions_meet_in_region first second both self.region other.region grown
          other_grown common self.reach other.reach wide union one.region two.region grown_is
          other_grown_is (subst (λ o. IfSome o (IsMeeting grown other_grown)) some meeting);
    }

-- so it is a cluster of tree sinks
pub joined_sinks : (self other : Cluster) (wide : ℤ) (common : Rect)
    → ((first second both : List Sink) → IsUnion first second both → IsCluster first self
    → IsCluster second other → IsReachAndRegion both wide common) → ∥ HasTreeSinks wide common ∥₁
joined_sinks self other wide common joined =
    ∥∥₁_elim self.sinks ∥∥₁_prop
    (λ one. ∥∥₁_map other.sinks
    (λ two. record {
      sinks = one.sinks ++ two.sinks;
      each = All-append IsTreeSink one.sinks two.sinks one.each two.each;
      held = joined one.sinks two.sinks (one.sinks ++ two.sinks)
          (append_is_union one.sinks two.sinks) one.held two.held;
    }))

-- rectangles without a gap have a common one
pub some_meeting : (gap : ℤ) (common : Option Rect) → gap ≡ pos 0 → IsNone common ↔ (pos 0 <ℤ gap)
    → IsSome common
some_meeting gap (Some rect) is none = refl
some_meeting gap None is none = absurd (omega (arith, ints, is, none.0 refl))
