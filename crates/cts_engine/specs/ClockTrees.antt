-- The tree of a report, with what keeps its numbers within the bounds of a report.
use Rattle.std.specs.Prelude.{◌≡◌, ◌+◌, ◌*◌, ◌^◌, ℕ, ℤ, List, All, length}
use Rattle.cts_engine.specs.Types.{Sink, Uv, Merge, Show, Tree, Wire}
use Rattle.cts_model.specs.Vocabulary.{IsBelow, IsSmallWire, IsLeastWire, embedding_of, total_wire, IsTopology}
use Rattle.place_down.specs.Trees.{HasTreeNumbers, IsPlacedTree}
use Rattle.cts_engine.specs.TreeParts.{AreDrawn}
use Rattle.cts_engine.specs.declared.clock_tree.ClockTree.{ClockTree}

-- a reach and a place for each node and the source, and a length for each node
pub record AreTreeLists (sinks : ℕ) (tree : Tree) : Type 0 where
  pub reaches : length tree.reach ≡ 2 * sinks
  pub places : length tree.place ≡ 2 * sinks
  pub lengths : length tree.length + 1 ≡ 2 * sinks

-- the topology's tree with its nodes in their places, and what shows its reaches
pub record IsMadeTree (sinks : List Sink) (merges : List Merge) (source : Uv) (tree : Tree)
    (shows : List Show) : Type 0 where
  pub placed : IsPlacedTree sinks merges source tree shows
  pub numbers : HasTreeNumbers tree
  pub lists : AreTreeLists (length sinks) tree

-- the topology, embedded with the least wire
pub record IsTree (sinks : List Sink) (source : Uv) (merges : List Merge) (tree : Tree)
    (shows : List Show) (wires : List Wire) (total : ℤ) : Type 0 where
  pub topology : IsTopology (length sinks) merges
  pub placed : IsPlacedTree sinks merges source tree shows
  pub drawn : AreDrawn (length sinks) merges (embedding_of tree) wires
  pub total_is : total ≡ total_wire (length sinks) (embedding_of tree)
  pub least : IsLeastWire sinks merges source total

-- a topology's tree over the sinks, as a report has it
pub record IsClockTree (sinks : List Sink) (merges : List Merge) (source : Uv)
    (made : ClockTree) : Type 0 where
  pub tree : IsTree sinks source merges made.tree made.shows made.wires made.total
  pub numbers : HasTreeNumbers made.tree
  pub lists : AreTreeLists (length sinks) made.tree
  pub wires : length made.wires + 1 ≡ 2 * length sinks
  pub small_wires : All IsSmallWire made.wires
  pub small_total : IsBelow (10 ^ 36) made.total
