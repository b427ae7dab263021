-- Where a node of the tree stands, and how far the source has to reach: deferred merging as in
-- Boese and Kahng 1992 and Chao and others 1992. In rotated coordinates and grid steps.
use Rattle.std.specs.Prelude.{◌≡◌, ◌⊎◌, ℕ, ◌+◌, ℤ, pos, ◌+ℤ◌, ◌*ℤ◌, ◌≤ℤ◌, List, Contains, Some, length, slice_get}
use Rattle.cts_model.specs.Types.{Sink, Uv, Merge}
use Rattle.cts_model.specs.tree.Embeddings.{Embedding}
use Rattle.cts_model.specs.placement.Points.{apart, rotated, rotated_distance}
use Rattle.cts_model.specs.tree.Regions.{InRegion, IsDoubleReach}
use Rattle.cts_model.specs.tree.Topologies.{IsParent, sinks_below}

-- a point of the sinks' region, and no point of it, fractions included, is closer to the parent in
-- u or in v
pub record IsChosenPlace (sinks : List Sink) (radius : ℤ) (parent at : Uv) : Type 0 where
  pub within : InRegion sinks 1 radius at
  pub u : (scale : ℕ) (other : Uv) → InRegion sinks scale (pos scale *ℤ radius) other
      → (pos scale *ℤ apart parent.u at.u) ≤ℤ apart (pos scale *ℤ parent.u) other.u
  pub v : (scale : ℕ) (other : Uv) → InRegion sinks scale (pos scale *ℤ radius) other
      → (pos scale *ℤ apart parent.v at.v) ≤ℤ apart (pos scale *ℤ parent.v) other.v

-- each merge has the least reach that its sinks allow, and stands at its chosen place
pub record AreChosen (sinks : List Sink) (merges : List Merge) (reach : ℕ → ℤ)
    (tree : Embedding) : Type 0 where
  pub reaches : (place : ℕ) (merge : Merge) → slice_get merges place ≡ Some merge
      → IsDoubleReach (sinks_below sinks merges (length sinks + place))
      (reach (length sinks + place) +ℤ reach (length sinks + place))
  pub places : (place parent : ℕ) (merge : Merge) → slice_get merges place ≡ Some merge
      → IsParent (length sinks) merges (length sinks + place) parent
      → IsChosenPlace (sinks_below sinks merges (length sinks + place))
      (reach (length sinks + place)) (rotated (tree.place parent))
      (rotated (tree.place (length sinks + place)))

-- the greatest of the root's reach and of each sink's distance from the source with its offset
pub record IsSourceReach (sinks : List Sink) (source : Uv) (root reach : ℤ) : Type 0 where
  pub above_root : root ≤ℤ reach
  pub each : (sink : Sink) → Contains sinks sink
      → (sink.offset +ℤ rotated_distance source sink.at) ≤ℤ reach
  pub attained : (reach ≡ root) ⊎ ((sink : Sink) × Contains sinks sink
      × (reach ≡ sink.offset +ℤ rotated_distance source sink.at))
