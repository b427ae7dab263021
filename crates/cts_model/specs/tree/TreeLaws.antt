-- What the shows of a tree say of all trees with its topology and its sinks' offsets. Boese and
-- Kahng 1992; Chao and others 1992. Each law is the clause of a function of the module laws.
use Rattle.std.specs.Prelude.{◌≡◌, ℕ, ◌+◌, ℤ, pos, ◌+ℤ◌, ◌-ℤ◌, ◌*ℤ◌, List, length}
use Rattle.cts_model.specs.Types.{Sink, Uv, Merge}
use Rattle.cts_model.specs.tree.Embeddings.{Embedding, IsEmbedding, RealisesOffsets, IsLeastWire, total_length, total_wire}
use Rattle.cts_model.specs.tree.Reaches.{HasReaches, AreNoLess, total_offset}
use Rattle.cts_model.specs.tree.ShownReaches.{AreReaches, AreShown}
use Rattle.cts_model.specs.tree.Topologies.{IsTopology, source_of}

-- edges as long as their ends' reaches differ realise the offsets, where a sink's reach is its
-- offset
abbrev pub ReachesRealise : Type 0
ReachesRealise = (sinks : List Sink) (merges : List Merge) (source : Uv) (tree : Embedding)
    (reach : ℕ → ℤ) → AreShown sinks merges source reach
    → AreReaches (length sinks) merges tree.length reach → RealisesOffsets 1 sinks merges tree

-- where each reach is shown, no embedding that realises the offsets has less wire
abbrev pub ShownReachesAreLeast : Type 0
ShownReachesAreLeast = (sinks : List Sink) (merges : List Merge) (source : Uv) (tree : Embedding)
    (reach : ℕ → ℤ) → IsTopology (length sinks) merges → AreShown sinks merges source reach
    → AreReaches (length sinks) merges tree.length reach
    → IsLeastWire sinks merges source (total_wire (length sinks) tree)

-- a tree that realises the offsets has reaches
abbrev pub RealisedHaveReaches : Type 0
RealisedHaveReaches = (scale : ℕ) (sinks : List Sink) (merges : List Merge) (tree : Embedding)
    → RealisesOffsets scale sinks merges tree
    → (reach : ℕ → ℤ) × HasReaches scale sinks merges tree reach

-- and in no embedding is one of them less than the sinks ask for
abbrev pub ReachesAreNoLess : Type 0
ReachesAreNoLess = (scale : ℕ) (sinks : List Sink) (merges : List Merge) (source : Uv)
    (tree : Embedding) (reach : ℕ → ℤ) → IsTopology (length sinks) merges
    → IsEmbedding scale sinks merges source tree → HasReaches scale sinks merges tree reach
    → AreNoLess scale sinks merges source reach

-- the wire is the source's reach and those of the merges, less the offsets at that scale
abbrev pub WireIsOfReaches : Type 0
WireIsOfReaches = (scale : ℕ) (sinks : List Sink) (merges : List Merge) (tree : Embedding)
    (reach : ℕ → ℤ) → IsTopology (length sinks) merges → HasReaches scale sinks merges tree reach
    → total_wire (length sinks) tree ≡ (reach (source_of (length sinks))
    +ℤ total_length (λ place. reach (length sinks + place)) (length merges))
    -ℤ (pos scale *ℤ total_offset sinks)
