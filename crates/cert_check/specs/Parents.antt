-- The parents of the nodes of a topology, as a list: Boese and Kahng 1992; Chao and others 1992.
use Rattle.std.specs.Prelude.{◌≡◌, ◌<◌, ◌*◌, ℕ, List, All, length, slice_index_or}
use Rattle.cts_model.specs.declared.tree.Merge.{Merge}
use Rattle.cts_model.specs.Vocabulary.{IsParent, IsTopology, source_of}

-- what the list has at a node's number
abbrev pub parent_at : List ℕ → ℕ → ℕ
parent_at parents node = slice_index_or parents node 0

-- at the number of each node of a topology but the source the list has the node's parent
pub record AreParents (sinks : ℕ) (merges : List Merge) (parents : List ℕ) : Type 0 where
  pub topology : IsTopology sinks merges
  pub all : length parents ≡ source_of sinks
  pub nodes : All (λ parent. parent < 2 * sinks) parents
  pub each : (node parent : ℕ) → IsParent sinks merges node parent
      → parent_at parents node ≡ parent
