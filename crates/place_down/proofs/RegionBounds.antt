-- Where a node may stand below its parent, and how large the numbers of its place are.
use Rattle.place_down.proofs.Vocabulary.{◌≤◌, ◌≡◌, ℕ, ◌+◌, ◌-◌, ◌*◌, ◌^◌, ◌<◌, inl, inr, ℤ, pos, ◌+ℤ◌, ◌-ℤ◌, ◌*ℤ◌, ◌≤ℤ◌, List, ◌++◌, Some, length, slice_get, refl, sym, subst, arith, Contains, cases_lt, ints, clamps, All-contains, Contains-append_left, Contains-append_right, get_or_from_slice_get, slice_get_cases, Point, Sink, Uv, Merge, IsChosenPlace, IsSourceReach, IsBelow, IsMultipleOf, IsPointBelow, IsUvBelow, apart, scaled, rotated, rotated_distance, InRegion, IsDoubleReach, AreTreeSinks, IsTreeSink, IsTopology, Joins, sinks_below, source_of, some_and, sinks_below-sink, sinks_below-merge, sinks_below-among, some_sink, IsMerged, IsPointOf, WorkState, reach_in}
use Rattle.tilted_rect.specs.Extremes.{IsRegion}
use Rattle.tilted_rect.specs.Rects.{IsNearest}
use Rattle.tilted_rect.specs.declared.rect.Rect.{Rect}
use Rattle.tilted_rect.proofs.MergeLemmas.{sink_reach, sink_region}
use Rattle.tilted_rect.proofs.MultipleLemmas.{reach_is_multiple}
use Rattle.tilted_rect.proofs.RegionLemmas.{region_has_point, wider_region_is_near}
use Rattle.place_down.proofs.SourceLemmas.{distance_below}

-- ---- plain points

-- a number over the scale 1
pub over_one : (a : ℤ) → pos 1 *ℤ a ≡ a
over_one a = omega (arith, ints)

-- how far two numbers are apart, the one over the scale 1
apart_over_one : (a b : ℤ) → apart (pos 1 *ℤ a) b ≡ apart b a
apart_over_one a b = rw (over_one a) (omega (arith, ints, clamps))

-- and so for two points
distance_over_one : (a b : Uv) → rotated_distance (scaled 1 a) b ≡ rotated_distance b a
distance_over_one a b = rw (apart_over_one a.u b.u, apart_over_one a.v b.v) refl

-- what is below one bound is below a greater one
pub below_more : {small large : ℕ} {number : ℤ} → small ≤ large → IsBelow small number
    → IsBelow large number
below_more wider below = record {
  above = omega (arith, ints, wider, below);
  below = omega (arith, ints, wider, below);
}

-- and so is a point
pub point_below_more : {small large : ℕ} {at : Uv} → small ≤ large → IsUvBelow small at
    → IsUvBelow large at
point_below_more wider below =
    record { u = below_more wider below.u; v = below_more wider below.v }

-- a point by its rotated coordinates, with the room that a sum needs
pub point_below : (point : Point) → IsUvBelow (10 ^ 32) (rotated point)
    → IsPointBelow (10 ^ 32) point
point_below point below = record {
  x = record {
    above = omega (arith, ints, below.u, below.v);
    below = omega (arith, ints, below.u, below.v);
  };
  y = record {
    above = omega (arith, ints, below.u, below.v);
    below = omega (arith, ints, below.u, below.v);
  };
}

-- ---- sets of sinks

-- a set's reach stays below what its sinks and their distances allow, and is a multiple of 4
pub reach_small : (set : List Sink) (reach : ℤ)
    → ((sink : Sink) → Contains set sink → IsTreeSink sink)
    → IsDoubleReach set (reach +ℤ reach) → IsBelow (2 * 10 ^ 31) reach × IsMultipleOf 4 reach
reach_small set reach each is =
    let one = each is.one is.one_among in
    let other = each is.other is.other_among in
    let way = distance_below is.one.at is.other.at one.at_below other.at_below in
    let half = reach_is_multiple set (reach +ℤ reach) (record {
      places = λ sink among. (each sink among).at_multiple;
      offsets = λ sink among. (each sink among).offset_multiple;
    }) is in
    let same : half.0 ≡ reach = omega (arith, ints, half.1) in (
      record {
        above = omega (arith, ints, is.shown, way, one.offset_below, other.offset_below);
        below = omega (arith, ints, is.shown, way, one.offset_below, other.offset_below);
      },
      subst (IsMultipleOf 4) same half.2,
    )

-- a point of the region at such a radius isn't far from a sink
pub region_below : (set : List Sink) (radius : ℤ) (at : Uv) (sink : Sink) → Contains set sink
    → IsTreeSink sink → IsBelow (2 * 10 ^ 31) radius → InRegion set 1 radius at
    → IsUvBelow (5 * 10 ^ 31) at
region_below set radius at sink among placed below region =
    let near = rw (distance_over_one sink.at at, over_one sink.offset) at (region sink among) in
    record {
      u = record {
        above = omega (arith, ints, clamps, placed, below, near);
        below = omega (arith, ints, clamps, placed, below, near);
      };
      v = record {
        above = omega (arith, ints, clamps, placed, below, near);
        below = omega (arith, ints, clamps, placed, below, near);
      };
    }

-- what is within the region of a set at a radius is so for a part of it
region_of_part : (part whole : List Sink) (radius : ℤ) (at : Uv)
    → ((sink : Sink) → Contains part sink → Contains whole sink) → InRegion whole 1 radius at
    → InRegion part 1 radius at
region_of_part part whole radius at among region = λ sink in_part. region sink (among sink in_part)

-- the nearest point of a set's region to a point of its wider region is the chosen one, and no
-- further than the radii differ
pub chosen_near : (set : List Sink) (rect : Rect) (own wide : ℤ) (at found : Uv)
    → IsDoubleReach set (own +ℤ own) → IsRegion rect set own → InRegion set 1 wide at
    → IsNearest rect at found
    → IsChosenPlace set own at found × (rotated_distance at found ≤ℤ (wide -ℤ own))
chosen_near set rect own wide at found reach region within nearest =
    let room = (region_has_point set (own +ℤ own) 1 wide reach).0 (at, within) in
    let wider : own ≤ℤ wide = omega (arith, ints, room) in
    let near = (wider_region_is_near set rect own wide 1 at region wider).0
    (subst (λ z. InRegion set 1 z at) (sym (over_one wide)) within) in
    let least = rw (distance_over_one at near.from) at (nearest.least 1 near.from near.holds) in (
      record {
        within = subst (λ z. InRegion set 1 z found) (over_one own)
            ((region 1 found).0 nearest.holds);
        u = λ scale other in_region. nearest.u scale other ((region scale other).1 in_region);
        v = λ scale other in_region. nearest.v scale other ((region scale other).1 in_region);
      },
      omega (arith, ints, least, near.near),
    )

-- ---- nodes of a topology

-- what a merged work holds of a node
pub record HoldsNode (sinks : List Sink) (merges : List Merge) (work : WorkState)
    (node : ℕ) : Type 0 where
  pub region : Rect
  pub region_held : slice_get work.regions node ≡ Some region
  pub is_reach : IsDoubleReach (sinks_below sinks merges node)
      (reach_in work.tree node +ℤ reach_in work.tree node)
  pub is_region : IsRegion region (sinks_below sinks merges node) (reach_in work.tree node)

module _ {sinks : List Sink} {merges : List Merge} (are : AreTreeSinks sinks)
    (topology : IsTopology (length sinks) merges) where
  -- of a sink
  holds_sink : (work : WorkState) → IsMerged sinks merges work → (register : ℕ) (sink : Sink)
      → slice_get sinks register ≡ Some sink → HoldsNode sinks merges work register
  holds_sink work merged register sink here =
      let held = merged.of_sinks register sink here in
      let (region, there, point) = some_and (slice_get work.regions register)
      (λ region. IsPointOf region sink) held.region in
      let alone = sinks_below-sink sinks merges register sink here in
      let reach = get_or_from_slice_get work.tree.reach register sink.offset (pos 0) held.reach in
      record {
        region = region;
        region_held = there;
        is_reach = rw (alone, reach) (sink_reach sink);
        is_region = rw (alone, reach) (sink_region sink region point);
      }

  -- of any node but the source
  pub holds_node : (work : WorkState) → IsMerged sinks merges work → (node : ℕ)
      → node < source_of (length sinks) → HoldsNode sinks merges work node
  holds_node work merged node below = elim (cases_lt node (length sinks)) [
    | inl low ↦ elim ((slice_get_cases sinks node).1) [
      | inl there ↦ holds_sink work merged node there.0 there.2
      | inr past ↦ absurd (omega (arith, past.0))
    ]
    | inr high ↦
        let place = node - length sinks in
        let same : length sinks + place ≡ node = omega arith in
        let held = merged.of_merges place (omega (arith, topology.all)) in
        let reach = get_or_from_slice_get work.tree.reach (length sinks + place) held.reach (pos 0)
        held.reach_held in
        subst (HoldsNode sinks merges work) same (record {
          region = held.region;
          region_held = held.region_held;
          is_reach = rw reach held.is_reach;
          is_region = rw reach held.is_region;
        })
  ]

  -- a sink below a node is one of the sinks
  below_among : (node : ℕ) (sink : Sink) → Contains (sinks_below sinks merges node) sink
      → Contains sinks sink
  below_among node sink below = All-contains (Contains sinks) (sinks_below sinks merges node) sink
      (sinks_below-among sinks merges node) below

  -- so its place and its offset are small
  below_small : (node : ℕ) (sink : Sink) → Contains (sinks_below sinks merges node) sink
      → IsTreeSink sink
  below_small node sink below =
      All-contains IsTreeSink sinks sink are.each (below_among node sink below)

  -- and so is the reach of the node
  pub reach_of_node : (node : ℕ) (reach : ℤ)
      → IsDoubleReach (sinks_below sinks merges node) (reach +ℤ reach)
      → IsBelow (2 * 10 ^ 31) reach × IsMultipleOf 4 reach
  reach_of_node node reach is =
      reach_small (sinks_below sinks merges node) reach (below_small node) is

  -- and where it may stand
  pub place_of_node : (node : ℕ) (reach : ℤ) (at : Uv) → node < source_of (length sinks)
      → IsDoubleReach (sinks_below sinks merges node) (reach +ℤ reach)
      → InRegion (sinks_below sinks merges node) 1 reach at → IsUvBelow (5 * 10 ^ 31) at
  place_of_node node reach at below is region =
      let some = some_sink sinks merges topology.each node (omega (arith, topology.all)) in
      region_below (sinks_below sinks merges node) reach at some.0 some.1
      (below_small node some.0 some.1) (reach_of_node node reach is).0 region

  -- a point within the region of a merge is within that of both nodes that it joins
  pub region_of_joined : (place : ℕ) (merge : Merge) (node : ℕ) (radius : ℤ) (at : Uv)
      → slice_get merges place ≡ Some merge → Joins merge node
      → InRegion (sinks_below sinks merges (length sinks + place)) 1 radius at
      → InRegion (sinks_below sinks merges node) 1 radius at
  region_of_joined place merge node radius at here joins region =
      let whole = sinks_below-merge sinks merges place merge here
      (topology.each place merge here) in
      let first = sinks_below sinks merges merge.first in
      let second = sinks_below sinks merges merge.second in
      let both = subst (λ set. InRegion set 1 radius at) whole region in
      elim joins [
        | inl same ↦ subst (λ node. InRegion (sinks_below sinks merges node) 1 radius at) same
            (region_of_part first (first ++ second) radius at
            (Contains-append_left first second) both)
        | inr same ↦ subst (λ node. InRegion (sinks_below sinks merges node) 1 radius at) same
            (region_of_part second (first ++ second) radius at
            (Contains-append_right first second) both)
      ]

  -- the source is within the region of any node at its own reach
  pub region_of_source : (source : Uv) (root reach : ℤ) → IsSourceReach sinks source root reach
      → (node : ℕ) → InRegion (sinks_below sinks merges node) 1 reach source
  region_of_source source root reach is node = λ sink below.
      let far = is.each sink (below_among node sink below) in
      rw (distance_over_one sink.at source, over_one sink.offset) (omega (arith, ints, far))
