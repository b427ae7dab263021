-- A tree that gets its places from the source down: Boese and Kahng 1992; Chao and others 1992.
use Rattle.std.specs.Prelude.{◌≡◌, ℕ, ◌+◌, ◌^◌, ◌<◌, ◌≤◌, Bool, true, false, List, Some, length, slice_get, slice_index_or, ℤ, ◌-ℤ◌, ◌≤ℤ◌}
use Rattle.cts_model.specs.declared.place.Point.{Point}
use Rattle.cts_model.specs.declared.place.Sink.{Sink}
use Rattle.cts_model.specs.declared.place.Uv.{Uv}
use Rattle.cts_model.specs.declared.tree.Merge.{Merge}
use Rattle.cts_model.specs.Vocabulary.{IsChosenPlace, embedding_of, IsBelow, IsUvBelow, IsUvMultipleOf, distance, rotated, IsParent, sinks_below, source_of}
use Rattle.merge_up.specs.Merging.{IsMerged, IsNodeSettled, placed_as}
use Rattle.merge_up.specs.Works.{WorkState, IsFit}
use Rattle.tilted_rect.specs.Rects.{IsNearest}
use Rattle.tilted_rect.specs.declared.rect.Rect.{Rect}
use Rattle.place_down.specs.Trees.{reach_in}

-- the node and its parent are within what the code's numbers hold
pub record CanSettle (node : ℕ) (reach : ℤ) (at : Uv) (work : WorkState) : Type 0 where
  pub stands : node < source_of work.sinks
  pub own : IsBelow (10 ^ 32) (reach_in work.tree node)
  pub wide : IsBelow (10 ^ 32) reach
  pub below : IsUvBelow (10 ^ 32) at
  pub multiple : IsUvMultipleOf 4 at

-- the node is settled at the point of its region nearest to the one given, and its edge is as long
-- as the reach is above its own
pub record IsSettledBelow (node : ℕ) (reach : ℤ) (at : Uv) (old new : WorkState) : Type 0 where
  pub region : Rect
  pub found : Uv
  pub region_held : slice_get old.regions node ≡ Some region
  pub nearest : IsNearest region at found
  pub multiple : IsUvMultipleOf 4 found
  pub placed : IsNodeSettled node found (reach -ℤ reach_in old.tree node) old new

-- where a node stands, how long its edge is, and whether it is settled
abbrev pub standing : WorkState → ℕ → Point × ℤ × Bool
standing work node = (
  (embedding_of work.tree).place node,
  (embedding_of work.tree).length node,
  slice_index_or work.settled node false,
)

-- at a reach of its own and below a reach and a point, a node with these sinks stands at its chosen
-- place, and its edge is long enough
pub record IsStanding (set : List Sink) (own reach : ℤ) (above : Point)
    (at : Point × ℤ × Bool) : Type 0 where
  pub chosen : IsChosenPlace set own (rotated above) (rotated at.0)
  pub multiple : IsUvMultipleOf 4 (rotated at.0)
  pub length : at.1 ≡ reach -ℤ own
  pub near : distance above at.0 ≤ℤ at.1
  pub settled : at.2 ≡ true

-- the node stands so below its parent
abbrev pub StandsBelow : List Sink → List Merge → WorkState → (node parent : ℕ) → Type 0
StandsBelow sinks merges work node parent = IsStanding (sinks_below sinks merges node)
    (reach_in work.tree node) (reach_in work.tree parent)
    ((embedding_of work.tree).place parent) (standing work node)

-- the nodes stand whose parents are the source or the merges from a place on
pub record StandFrom (sinks : List Sink) (merges : List Merge) (place : ℕ)
    (work : WorkState) : Type 0 where
  pub fit : IsFit work
  pub merged : IsMerged sinks merges work
  pub each : (node parent : ℕ) → IsParent (length sinks) merges node parent
      → length sinks + place ≤ parent → StandsBelow sinks merges work node parent

-- nothing but places of nodes below the source changes, with their lengths
pub record StaysAbove (old new : WorkState) : Type 0 where
  pub rest : new ≡ placed_as new.tree.place new.tree.length new.settled old
  pub source : standing new (source_of old.sinks) ≡ standing old (source_of old.sinks)
