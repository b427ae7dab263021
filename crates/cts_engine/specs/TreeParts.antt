-- The parts of a tree's report, as they come one after the other.
use Rattle.std.specs.Prelude.{◌≡◌, ◌<◌, ◌*◌, ◌^◌, ℕ, ℤ, pos, ◌≤ℤ◌, ◌<ℤ◌, List, length, take, slice_set}
use Rattle.cts_engine.specs.Types.{Point, Merge, Tree, Wire}
use Rattle.cts_model.specs.Vocabulary.{IsDrawn, Embedding, embedding_of, IsMultipleOf, IsPointBelow, distance, IsSmallWire, IsParent}
use Rattle.wire_detours.specs.WirePoints.{ArePoints}
use Rattle.outcomes.specs.Syntheses.{EachEdge}

-- an edge that has a drawn wire: its ends and its length are within bounds and whole numbers of 4
-- grid steps, and it isn't shorter than the way
pub record IsEdge (from to : Point) (long : ℤ) : Type 0 where
  pub from_below : IsPointBelow (5 * 10 ^ 31) from
  pub to_below : IsPointBelow (5 * 10 ^ 31) to
  pub multiple : IsMultipleOf 4 long
  pub distance_multiple : IsMultipleOf 4 (distance from to)
  pub enough : distance from to ≤ℤ long
  pub below : long <ℤ pos (10 ^ 32)

-- the edge of the node can be drawn
pub record CanDrawEdge (tree : Tree) (node parent : ℕ) : Type 0 where
  pub node_stands : node < length tree.place
  pub parent_stands : parent < length tree.place
  pub long : node < length tree.length
  pub edge : IsEdge ((embedding_of tree).place parent) ((embedding_of tree).place node)
      ((embedding_of tree).length node)

-- so can each edge
abbrev pub CanDraw : (sinks : ℕ) → List Merge → Tree → Type 0
CanDraw sinks merges tree = (node parent : ℕ) → IsParent sinks merges node parent
    → CanDrawEdge tree node parent

-- the wire is drawn from the node's parent to the node
pub record IsWireOf (tree : Embedding) (node parent : ℕ) (wire : Wire) : Type 0 where
  pub drawn : IsDrawn (tree.place parent) (tree.place node) (tree.length node)
      (take wire.used wire.corners)
  pub points : ArePoints (tree.place parent) (tree.place node) (tree.length node)
      (take wire.used wire.corners)

-- so is each
pub record AreDrawn (sinks : ℕ) (merges : List Merge) (tree : Embedding) (wires : List Wire)
    : Type 0 where
  pub drawn : EachEdge IsDrawn sinks merges tree wires
  pub points : EachEdge ArePoints sinks merges tree wires

-- the node's wire is drawn, and the other wires stay
pub record IsEdgeDrawn (tree : Tree) (node parent : ℕ) (old new : List Wire) : Type 0 where
  pub wire : Wire
  pub is : IsWireOf (embedding_of tree) node parent wire
  pub small : IsSmallWire wire
  pub rest : new ≡ slice_set old node wire
