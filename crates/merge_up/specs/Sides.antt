-- How far sinks are to the four sides in rotated coordinates, with their offsets. The furthest
-- sinks to the four sides say all of a set of sinks that its reach and its region depend on: Boese
-- and Kahng 1992; Chao and others 1992.
use Rattle.std.specs.Prelude.{◌≡◌, ℕ, min, max, List, Contains, IsSomeAnd, slice_get, filter_map, ℤ, ◌+ℤ◌, ◌-ℤ◌, neg_ℤ}
use Rattle.cts_model.specs.declared.place.Sink.{Sink}
use Rattle.cts_model.specs.declared.tree.Show.{Show}
use Rattle.cts_model.specs.declared.tree.Show.TheVariants as shows
use Rattle.tilted_rect.specs.Extremes.{Extremes, IsGreatest, u_above, v_above}
use Rattle.tilted_rect.specs.declared.rect.Rect.{Rect}
use Rattle.merge_up.specs.declared.end.End.{End}
use Rattle.merge_up.specs.declared.ends.Ends.{Ends}
use Rattle.merge_up.specs.declared.side.Side.{Side}
use Rattle.merge_up.specs.declared.side.Side.TheVariants as sides

-- how far a sink is to the sides of smaller u and of smaller v
abbrev pub u_back : Sink → ℤ
u_back sink = sink.offset -ℤ sink.at.u

abbrev pub v_back : Sink → ℤ
v_back sink = sink.offset -ℤ sink.at.v

-- how far a sink is to a side
abbrev pub far_to : Side → Sink → ℤ
far_to sides.HighU = u_above
far_to sides.LowU = u_back
far_to sides.HighV = v_above
far_to sides.LowV = v_back

-- how far the furthest sink of a node is to a side, by the node's region and reach
abbrev pub furthest_to : Side → Rect → (reach : ℤ) → ℤ
furthest_to sides.HighU region reach = region.ulo +ℤ reach
furthest_to sides.LowU region reach = reach -ℤ region.uhi
furthest_to sides.HighV region reach = region.vlo +ℤ reach
furthest_to sides.LowV region reach = reach -ℤ region.vhi

-- the register is one of the numbered sinks, and so far to the side
pub record IsSoFar (sinks : List Sink) (numbers : List ℕ) (side : Side) (far : ℤ)
    (register : ℕ) : Type 0 where
  pub among : Contains numbers register
  pub attained : IsSomeAnd (slice_get sinks register) (λ sink. far_to side sink ≡ far)

-- the end is one of the numbered sinks, and none of them is further
pub record IsEnd (sinks : List Sink) (numbers : List ℕ) (far : Sink → ℤ) (end : End) : Type 0 where
  pub among : Contains numbers end.sink
  pub attained : IsSomeAnd (slice_get sinks end.sink) (λ sink. far sink ≡ end.far)
  pub furthest : IsGreatest far (filter_map (slice_get sinks) numbers) end.far

-- the furthest of the numbered sinks to each of the four sides
pub record AreEnds (sinks : List Sink) (numbers : List ℕ) (ends : Ends) : Type 0 where
  pub high_u : IsEnd sinks numbers u_above ends.high_u
  pub low_u : IsEnd sinks numbers u_back ends.low_u
  pub high_v : IsEnd sinks numbers v_above ends.high_v
  pub low_v : IsEnd sinks numbers v_back ends.low_v

-- the ends as extremes
abbrev pub extremes_of : Ends → Extremes
extremes_of ends = record {
  greatest_u = ends.high_u.far;
  least_u = neg_ℤ ends.low_u.far;
  greatest_v = ends.high_v.far;
  least_v = neg_ℤ ends.low_v.far;
}

-- two sinks as a show, the lower number first
abbrev pub pair_of : ℕ → ℕ → Show
pair_of one other = shows.Pair (min one other) (max one other)
