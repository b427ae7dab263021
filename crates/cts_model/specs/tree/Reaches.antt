-- The reaches of a tree's nodes at any scale, and what they can't be below. The reach of a node is
-- how long the wire from it down to any of its sinks is, with that sink's offset. Boese and Kahng
-- 1992; Chao and others 1992.
use Rattle.std.specs.Prelude.{◌≡◌, ℕ, ◌<◌, ◌+◌, ℤ, pos, ◌+ℤ◌, ◌*ℤ◌, ◌≤ℤ◌, List, length, IfSome, slice_get}
use Rattle.std.specs.Option.{option_map_or}
use Rattle.cts_model.specs.Types.{Sink, Uv, Merge}
use Rattle.cts_model.specs.tree.ChosenPlaces.{IsSourceReach}
use Rattle.cts_model.specs.tree.Embeddings.{Embedding, total_length}
use Rattle.cts_model.specs.tree.Regions.{IsDoubleReach}
use Rattle.cts_model.specs.tree.ShownReaches.{AreReaches}
use Rattle.cts_model.specs.tree.Topologies.{root_of, source_of, sinks_below}

-- a sink's reach is its offset at that scale, and each edge is as long as its ends' reaches differ
pub record HasReaches (scale : ℕ) (sinks : List Sink) (merges : List Merge) (tree : Embedding)
    (reach : ℕ → ℤ) : Type 0 where
  pub of_sinks : (register : ℕ) → IfSome (slice_get sinks register)
      (λ sink. reach register ≡ pos scale *ℤ sink.offset)
  pub of_edges : AreReaches (length sinks) merges tree.length reach

-- no merge reaches less than its sinks ask for, and neither does the source
pub record AreNoLess (scale : ℕ) (sinks : List Sink) (merges : List Merge) (source : Uv)
    (reach : ℕ → ℤ) : Type 0 where
  pub of_merges : (place : ℕ) (twice : ℤ) → place < length merges
      → IsDoubleReach (sinks_below sinks merges (length sinks + place)) twice
      → (pos scale *ℤ twice) ≤ℤ (reach (length sinks + place) +ℤ reach (length sinks + place))
  pub of_source : (root least : ℤ)
      → IsDoubleReach (sinks_below sinks merges (root_of (length sinks))) (root +ℤ root)
      → IsSourceReach sinks source root least
      → (pos scale *ℤ least) ≤ℤ reach (source_of (length sinks))

-- the offsets of all sinks together
abbrev pub total_offset : List Sink → ℤ
total_offset sinks = total_length (λ register. option_map_or (λ sink. sink.offset)
    (slice_get sinks register) (pos 0)) (length sinks)
