-- Sets of sinks as deferred merging sees them: the reach of a set, and the region where a node
-- above its sinks may stand. Boese and Kahng 1992; Chao and others 1992. A set is a list, of which
-- neither the order nor a repetition matters. Where a scale is given, the point and the radius are
-- numerators over it, so that all fractions are meant.
use Rattle.std.specs.Prelude.{◌≡◌, ◌⊎◌, ℕ, List, [], ◌∷◌, Contains, ℤ, pos, ◌+ℤ◌, ◌-ℤ◌, ◌*ℤ◌, ◌≤ℤ◌}
use Rattle.cts_model.specs.Types.{Sink, Uv}
use Rattle.cts_model.specs.placement.Points.{scaled, rotated_distance}

-- the distance of two sinks with both offsets: no node above both has a reach below half of it
abbrev pub span : Sink → Sink → ℤ
span one other = one.offset +ℤ other.offset +ℤ rotated_distance one.at other.at

-- the greatest span of a sink of the one set and a sink of the other, with a pair that shows it
pub record IsGreatestSpan (first second : List Sink) (greatest : ℤ) : Type 0 where
  pub most : (one other : Sink) → Contains first one → Contains second other
      → span one other ≤ℤ greatest
  pub one : Sink
  pub other : Sink
  pub one_among : Contains first one
  pub other_among : Contains second other
  pub shown : span one other ≡ greatest

-- twice the reach of a set is its greatest span, that of a sink with itself included
abbrev pub IsDoubleReach : List Sink → ℤ → Type 0
IsDoubleReach sinks twice = IsGreatestSpan sinks sinks twice

-- the point is no further from any of the sinks than the radius less the sink's offset
abbrev pub InRegion : List Sink → ℕ → ℤ → Uv → Type 0
InRegion sinks scale radius point = (sink : Sink) → Contains sinks sink
    → rotated_distance (scaled scale sink.at) point ≤ℤ (radius -ℤ pos scale *ℤ sink.offset)

-- of every two sinks the regions at that radius, which are squares, have a common point
abbrev pub MeetTwoByTwo : List Sink → ℕ → ℤ → Type 0
MeetTwoByTwo sinks scale radius = (one other : Sink) → Contains sinks one → Contains sinks other
    → (point : Uv) × InRegion (one ∷ other ∷ []) scale radius point

-- the sinks of a set are those of two sets
pub record IsUnion (first second both : List Sink) : Type 0 where
  pub first_in : (sink : Sink) → Contains first sink → Contains both sink
  pub second_in : (sink : Sink) → Contains second sink → Contains both sink
  pub from_either : (sink : Sink) → Contains both sink → Contains first sink ⊎ Contains second sink
