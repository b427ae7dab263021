-- Embeddings of a topology in the plane under the linear delay model, where more length than the
-- distance is a detour: Boese and Kahng 1992; Chao and others 1992. Places and lengths are
-- numerators over a scale, in grid steps, so that all fractions are meant.
use Rattle.std.specs.Prelude.{◌≡◌, ℕ, zero, suc, ◌≤◌, ℤ, pos, ◌+ℤ◌, ◌*ℤ◌, ◌≤ℤ◌, List, length, IfSome, slice_get, slice_index_or}
use Rattle.cts_model.specs.Types.{Point, Sink, Uv, Merge, Tree}
use Rattle.cts_model.specs.placement.Points.{distance, scaled, rotated}
use Rattle.cts_model.specs.tree.Topologies.{IsParent, source_of}

-- where the nodes stand, and how long their edges are
pub record Embedding : Type 0 where
  pub place : ℕ → Point
  pub length : ℕ → ℤ

-- the embedding that a tree is, by its lists
abbrev pub embedding_of : Tree → Embedding
embedding_of tree = record {
  place = λ node. slice_index_or tree.place node (record { x = pos 0; y = pos 0 });
  length = λ node. slice_index_or tree.length node (pos 0);
}

-- sinks and source stand at their given places, and no edge is shorter than the distance of its
-- ends
pub record IsEmbedding (scale : ℕ) (sinks : List Sink) (merges : List Merge) (source : Uv)
    (tree : Embedding) : Type 0 where
  pub sinks_stand : (register : ℕ) → IfSome (slice_get sinks register)
      (λ sink. rotated (tree.place register) ≡ scaled scale sink.at)
  pub source_stands : rotated (tree.place (source_of (length sinks))) ≡ scaled scale source
  pub long_enough : (node parent : ℕ) → IsParent (length sinks) merges node parent
      → distance (tree.place parent) (tree.place node) ≤ℤ tree.length node

-- how long the wire is from the source down to each node
pub record AreWiresDown (sinks : ℕ) (merges : List Merge) (length wire : ℕ → ℤ) : Type 0 where
  pub source : wire (source_of sinks) ≡ pos 0
  pub each : (node parent : ℕ) → IsParent sinks merges node parent
      → wire node ≡ wire parent +ℤ length node

-- the wire down to a sink and its offset are the same for all sinks
pub record RealisesOffsets (scale : ℕ) (sinks : List Sink) (merges : List Merge)
    (tree : Embedding) : Type 0 where
  pub wire : ℕ → ℤ
  pub wires : AreWiresDown (length sinks) merges tree.length wire
  pub common : ℤ
  pub level : (register : ℕ) → IfSome (slice_get sinks register)
      (λ sink. wire register +ℤ (pos scale *ℤ sink.offset) ≡ common)

-- the lengths of the edges of so many nodes
abbrev pub total_length : (length : ℕ → ℤ) → (nodes : ℕ) → ℤ
total_length length zero = pos 0
total_length length (suc nodes) = total_length length nodes +ℤ length nodes

-- how much wire the tree has: each node but the source has an edge
abbrev pub total_wire : (sinks : ℕ) → Embedding → ℤ
total_wire sinks tree = total_length tree.length (source_of sinks)

-- no embedding of the topology that realises the offsets has less wire, whatever its scale
abbrev pub IsLeastWire : List Sink → List Merge → (source : Uv) → (wire : ℤ) → Type 0
IsLeastWire sinks merges source wire = (scale : ℕ) (other : Embedding) → 1 ≤ scale
    → IsEmbedding scale sinks merges source other → RealisesOffsets scale sinks merges other
    → (pos scale *ℤ wire) ≤ℤ total_wire (length sinks) other
