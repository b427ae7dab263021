-- The four extremes of a set of sinks, and the rectangles that they bound. They say all of a set
-- that its reach and its regions depend on.
use Rattle.std.specs.Prelude.{◌≡◌, ◌↔◌, ℕ, List, Contains, ℤ, pos, ◌+ℤ◌, ◌-ℤ◌, ◌*ℤ◌, ◌≤ℤ◌}
use Rattle.std.specs.Int.{int_max, int_min}
use Rattle.cts_model.specs.declared.place.Sink.{Sink}
use Rattle.cts_model.specs.declared.place.Uv.{Uv}
use Rattle.cts_model.specs.Vocabulary.{IsMultipleOf, IsUvMultipleOf, InRegion}
use Rattle.tilted_rect.specs.Rects.{Holds, HasSides}
use Rattle.tilted_rect.specs.declared.rect.Rect.{Rect}

-- no sink of the set has more, and one has as much
pub record IsGreatest (of : Sink → ℤ) (sinks : List Sink) (number : ℤ) : Type 0 where
  pub most : (sink : Sink) → Contains sinks sink → of sink ≤ℤ number
  pub sink : Sink
  pub among : Contains sinks sink
  pub attained : of sink ≡ number

-- no sink of the set has less, and one has as little
pub record IsLeastOf (of : Sink → ℤ) (sinks : List Sink) (number : ℤ) : Type 0 where
  pub least : (sink : Sink) → Contains sinks sink → number ≤ℤ of sink
  pub sink : Sink
  pub among : Contains sinks sink
  pub attained : of sink ≡ number

-- a coordinate with the offset added, and with the offset taken off
abbrev pub u_above : Sink → ℤ
u_above sink = sink.at.u +ℤ sink.offset

abbrev pub u_below : Sink → ℤ
u_below sink = sink.at.u -ℤ sink.offset

abbrev pub v_above : Sink → ℤ
v_above sink = sink.at.v +ℤ sink.offset

abbrev pub v_below : Sink → ℤ
v_below sink = sink.at.v -ℤ sink.offset

pub record Extremes : Type 0 where
  pub greatest_u : ℤ
  pub least_u : ℤ
  pub greatest_v : ℤ
  pub least_v : ℤ

-- in u and in v the greatest sum with the offset and the least difference from it
pub record IsExtremes (sinks : List Sink) (extremes : Extremes) : Type 0 where
  pub greatest_u : IsGreatest u_above sinks extremes.greatest_u
  pub least_u : IsLeastOf u_below sinks extremes.least_u
  pub greatest_v : IsGreatest v_above sinks extremes.greatest_v
  pub least_v : IsLeastOf v_below sinks extremes.least_v

-- the greater of what the extremes differ by in u and in v
abbrev pub spread : Extremes → ℤ
spread of = int_max (of.greatest_u -ℤ of.least_u) (of.greatest_v -ℤ of.least_v)

-- the extremes of two sets taken together
abbrev pub joined : Extremes → Extremes → Extremes
joined first second = record {
  greatest_u = int_max first.greatest_u second.greatest_u;
  least_u = int_min first.least_u second.least_u;
  greatest_v = int_max first.greatest_v second.greatest_v;
  least_v = int_min first.least_v second.least_v;
}

-- twice the reach of two sets together, by their reaches and the gap of their regions
abbrev pub joined_twice : (reach other_reach gap : ℤ) → ℤ
joined_twice reach other_reach gap =
    int_max (int_max (reach +ℤ reach) (other_reach +ℤ other_reach)) (reach +ℤ other_reach +ℤ gap)

-- on each axis the point is at most the radius below the greatest extreme and above the least
pub record IsBetween (extremes : Extremes) (scale : ℕ) (radius : ℤ) (point : Uv) : Type 0 where
  pub ulo : (pos scale *ℤ extremes.greatest_u -ℤ radius) ≤ℤ point.u
  pub uhi : point.u ≤ℤ (pos scale *ℤ extremes.least_u +ℤ radius)
  pub vlo : (pos scale *ℤ extremes.greatest_v -ℤ radius) ≤ℤ point.v
  pub vhi : point.v ≤ℤ (pos scale *ℤ extremes.least_v +ℤ radius)

-- the rectangle between the extremes at a radius
abbrev pub HasExtremeSides : Rect → Extremes → ℤ → Type 0
HasExtremeSides rect extremes radius = HasSides rect
    (extremes.greatest_u -ℤ radius) (extremes.least_u +ℤ radius)
    (extremes.greatest_v -ℤ radius) (extremes.least_v +ℤ radius)

-- the rectangle is the region of the sinks at that radius, point for point
abbrev pub IsRegion : Rect → List Sink → ℤ → Type 0
IsRegion rect sinks radius = (scale : ℕ) (point : Uv)
    → Holds rect scale point ↔ InRegion sinks scale (pos scale *ℤ radius) point

-- the second rectangle is the first one grown by a length
abbrev pub IsGrown : Rect → ℤ → Rect → Type 0
IsGrown rect by grown = HasSides grown
    (rect.ulo -ℤ by) (rect.uhi +ℤ by) (rect.vlo -ℤ by) (rect.vhi +ℤ by)

-- the third rectangle is where the first two meet
abbrev pub IsMeeting : Rect → Rect → Rect → Type 0
IsMeeting rect other common = HasSides common
    (int_max rect.ulo other.ulo) (int_min rect.uhi other.uhi)
    (int_max rect.vlo other.vlo) (int_min rect.vhi other.vhi)

-- places and offsets of all the sinks are multiples of that step
pub record AreMultiplesOf (step : ℕ) (sinks : List Sink) : Type 0 where
  pub places : (sink : Sink) → Contains sinks sink → IsUvMultipleOf step sink.at
  pub offsets : (sink : Sink) → Contains sinks sink → IsMultipleOf step sink.offset

-- the sides between the extremes at a radius are multiples of 4
pub record AreSidesMultiples (extremes : Extremes) (radius : ℤ) : Type 0 where
  pub ulo : IsMultipleOf 4 (extremes.greatest_u -ℤ radius)
  pub uhi : IsMultipleOf 4 (extremes.least_u +ℤ radius)
  pub vlo : IsMultipleOf 4 (extremes.greatest_v -ℤ radius)
  pub vhi : IsMultipleOf 4 (extremes.least_v +ℤ radius)
