-- What merging by rectangles alone rests on, for every set of sinks: Boese and Kahng 1992; Chao and
-- others 1992. Each law is the clause of a function of the module laws.
use Rattle.std.specs.Prelude.{◌≡◌, ◌↔◌, ℕ, List, [], ◌∷◌, ◌++◌, Contains, ℤ, pos, ◌+ℤ◌, ◌-ℤ◌, ◌*ℤ◌, ◌≤ℤ◌, ◌<ℤ◌}
use Rattle.cts_model.specs.declared.place.Sink.{Sink}
use Rattle.cts_model.specs.declared.place.Uv.{Uv}
use Rattle.cts_model.specs.Vocabulary.{IsMultipleOf, span, IsGreatestSpan, IsDoubleReach, InRegion, MeetTwoByTwo, IsUnion}
use Rattle.tilted_rect.specs.Rects.{IsNear, HasSides, gap_of}
use Rattle.tilted_rect.specs.Extremes.{u_above, u_below, v_above, v_below, Extremes, IsExtremes, spread, joined, joined_twice, IsBetween, HasExtremeSides, IsRegion, IsGrown, IsMeeting, AreMultiplesOf, AreSidesMultiples}
use Rattle.tilted_rect.specs.declared.rect.Rect.{Rect}

-- a set with at least one sink has extremes
abbrev pub EachSetHasExtremes : Type 0
EachSetHasExtremes = (sink : Sink) (more : List Sink)
    → (extremes : Extremes) × IsExtremes (sink ∷ more) extremes

-- twice the reach is the greater of what the extremes differ by in u and in v
abbrev pub ReachIsSpread : Type 0
ReachIsSpread = (sinks : List Sink) (extremes : Extremes) (twice : ℤ) → IsExtremes sinks extremes
    → IsDoubleReach sinks twice ↔ (twice ≡ spread extremes)

-- where u decides the reach, a sink of the greatest sum and one of the least difference show it
abbrev pub SinksOfUShow : Type 0
SinksOfUShow = (sinks : List Sink) (extremes : Extremes) (one other : Sink)
    → IsDoubleReach sinks (extremes.greatest_u -ℤ extremes.least_u)
    → Contains sinks one → Contains sinks other
    → u_above one ≡ extremes.greatest_u → u_below other ≡ extremes.least_u
    → span one other ≡ extremes.greatest_u -ℤ extremes.least_u

-- and the same where v does
abbrev pub SinksOfVShow : Type 0
SinksOfVShow = (sinks : List Sink) (extremes : Extremes) (one other : Sink)
    → IsDoubleReach sinks (extremes.greatest_v -ℤ extremes.least_v)
    → Contains sinks one → Contains sinks other
    → v_above one ≡ extremes.greatest_v → v_below other ≡ extremes.least_v
    → span one other ≡ extremes.greatest_v -ℤ extremes.least_v

-- a span is the same either way
abbrev pub SpanIsSymmetric : Type 0
SpanIsSymmetric = (one other : Sink) → span one other ≡ span other one

-- the points of a region are those between the extremes
abbrev pub RegionIsBetween : Type 0
RegionIsBetween = (sinks : List Sink) (extremes : Extremes) (scale : ℕ) (radius : ℤ) (point : Uv)
    → IsExtremes sinks extremes
    → InRegion sinks scale radius point ↔ IsBetween extremes scale radius point

-- the rectangle of a region is the one between the extremes
abbrev pub RegionHasExtremeSides : Type 0
RegionHasExtremeSides = (sinks : List Sink) (extremes : Extremes) (rect : Rect) (radius : ℤ)
    → IsExtremes sinks extremes → IsRegion rect sinks radius ↔ HasExtremeSides rect extremes radius

-- a region has a point exactly where the reach is no more than its radius
abbrev pub RegionHasPoint : Type 0
RegionHasPoint = (sinks : List Sink) (twice : ℤ) (scale : ℕ) (radius : ℤ) → IsDoubleReach sinks
    twice
    → ((point : Uv) × InRegion sinks scale radius point)
    ↔ ((pos scale *ℤ twice) ≤ℤ (radius +ℤ radius))

-- the region at a greater radius is what is near the region
abbrev pub WiderRegionIsNear : Type 0
WiderRegionIsNear = (sinks : List Sink) (rect : Rect) (radius wide : ℤ) (scale : ℕ) (point : Uv)
    → IsRegion rect sinks radius → radius ≤ℤ wide
    → InRegion sinks scale (pos scale *ℤ wide) point ↔ IsNear rect (wide -ℤ radius) scale point

-- squares that meet two by two have a common point
abbrev pub SquaresMeet : Type 0
SquaresMeet = (sinks : List Sink) (scale : ℕ) (radius : ℤ)
    → MeetTwoByTwo sinks scale radius → (point : Uv) × InRegion sinks scale radius point

-- a sink alone has its offset for its reach, and its place for its region
abbrev pub SinkReach : Type 0
SinkReach = (sink : Sink) → IsDoubleReach (sink ∷ []) (sink.offset +ℤ sink.offset)

abbrev pub SinkRegion : Type 0
SinkRegion = (sink : Sink) (rect : Rect) → HasSides rect sink.at.u sink.at.u sink.at.v sink.at.v
    → IsRegion rect (sink ∷ []) sink.offset

-- one list after the other has the sinks of both
abbrev pub AppendIsUnion : Type 0
AppendIsUnion = (first second : List Sink) → IsUnion first second (first ++ second)

-- the extremes of a union are the greater and the smaller of those of its parts
abbrev pub UnionHasJoinedExtremes : Type 0
UnionHasJoinedExtremes = (first second both : List Sink) (extremes others : Extremes)
    → IsUnion first second both → IsExtremes first extremes → IsExtremes second others
    → IsExtremes both (joined extremes others)

-- the regions of two sets, each grown to a common radius, meet in the region of the union
abbrev pub GrownRegionsMeetInRegion : Type 0
GrownRegionsMeetInRegion = (first second both : List Sink)
    → (rect other grown other_grown common : Rect) (radius other_radius wide : ℤ)
    → IsUnion first second both
    → IsRegion rect first radius → IsRegion other second other_radius
    → IsGrown rect (wide -ℤ radius) grown → IsGrown other (wide -ℤ other_radius) other_grown
    → IsMeeting grown other_grown common → IsRegion common both wide

-- and where the common radius is at least the reach of the union, they do meet
abbrev pub GrownRegionsMeet : Type 0
GrownRegionsMeet = (first second both : List Sink) (rect other grown other_grown : Rect)
    → (radius other_radius wide twice : ℤ) → IsUnion first second both
    → IsRegion rect first radius → IsRegion other second other_radius
    → IsGrown rect (wide -ℤ radius) grown → IsGrown other (wide -ℤ other_radius) other_grown
    → IsDoubleReach both twice → twice ≤ℤ (wide +ℤ wide) → gap_of grown other_grown ≡ pos 0

-- where two regions are apart, the radii and the gap are the greatest span between the sets
abbrev pub GapIsGreatestSpan : Type 0
GapIsGreatestSpan = (first second : List Sink) (rect other : Rect) (radius other_radius : ℤ)
    → IsRegion rect first radius → IsRegion other second other_radius
    → pos 0 <ℤ gap_of rect other
    → IsGreatestSpan first second (radius +ℤ other_radius +ℤ gap_of rect other)

-- where they meet, no such span is above the sum of the radii
abbrev pub NoGapNoGreaterSpan : Type 0
NoGapNoGreaterSpan = (first second : List Sink) (rect other : Rect) (radius other_radius : ℤ)
    → IsRegion rect first radius → IsRegion other second other_radius
    → gap_of rect other ≡ pos 0
    → (one far : Sink) → Contains first one → Contains second far
    → span one far ≤ℤ (radius +ℤ other_radius)

-- twice the reach of a union, by the reaches and the gap of the regions of its parts
abbrev pub UnionReach : Type 0
UnionReach = (first second both : List Sink) (rect other : Rect) (radius other_radius : ℤ)
    → IsUnion first second both
    → IsDoubleReach first (radius +ℤ radius) → IsDoubleReach second (other_radius +ℤ other_radius)
    → IsRegion rect first radius → IsRegion other second other_radius
    → IsDoubleReach both (joined_twice radius other_radius (gap_of rect other))

-- where places and offsets are multiples of 8, spans are, and so is twice a reach
abbrev pub GreatestSpanIsMultiple : Type 0
GreatestSpanIsMultiple = (first second : List Sink) (greatest : ℤ)
    → AreMultiplesOf 8 first → AreMultiplesOf 8 second → IsGreatestSpan first second greatest
    → IsMultipleOf 8 greatest

-- so the reach is a whole number, and a multiple of 4
abbrev pub ReachIsMultiple : Type 0
ReachIsMultiple = (sinks : List Sink) (twice : ℤ) → AreMultiplesOf 8 sinks → IsDoubleReach sinks
    twice
    → (radius : ℤ) × (radius +ℤ radius ≡ twice) × IsMultipleOf 4 radius

-- and the corners of the region at such a radius are multiples of 4
abbrev pub CornersAreMultiples : Type 0
CornersAreMultiples = (sinks : List Sink) (extremes : Extremes) (radius : ℤ)
    → AreMultiplesOf 8 sinks → IsExtremes sinks extremes → IsMultipleOf 4 radius
    → AreSidesMultiples extremes radius
