-- Topologies of clock trees: which two nodes each merge joins. Boese and Kahng 1992; Chao and
-- others 1992. With n sinks the nodes below n are the sinks, and the merge at place k makes the
-- node n + k. The node that is made last is the root, whose edge comes from the source, node 2n -
-- 1.
use Rattle.std.specs.Prelude.{◌≡◌, ◌≢◌, ◌⊎◌, ℕ, ◌<◌, ◌+◌, ◌-◌, ◌*◌, List, [], ◌∷◌, ◌++◌, map, length, take, All, IsSomeAnd, Some, slice_get, slice_index_or, filter_map}
use Rattle.std.specs.List.{range_with_len}
use Rattle.cts_model.specs.Types.{Sink, Merge}

abbrev pub root_of : (sinks : ℕ) → ℕ
root_of sinks = 2 * sinks - 2

abbrev pub source_of : (sinks : ℕ) → ℕ
source_of sinks = 2 * sinks - 1

-- the merge joins the node to another
abbrev pub Joins : Merge → ℕ → Type 0
Joins merge node = (merge.first ≡ node) ⊎ (merge.second ≡ node)

-- the node is a sink or made by these merges, and none of them joins it
pub record IsLive (sinks : ℕ) (merges : List Merge) (node : ℕ) : Type 0 where
  pub made : node < sinks + length merges
  pub unjoined : All (λ merge. (merge.first ≢ node) × (merge.second ≢ node)) merges

-- after those merges this one joins two live nodes, the lower number first
pub record IsMerge (sinks : ℕ) (earlier : List Merge) (merge : Merge) : Type 0 where
  pub ordered : merge.first < merge.second
  pub first : IsLive sinks earlier merge.first
  pub second : IsLive sinks earlier merge.second

-- the merges join all the sinks
pub record IsTopology (sinks : ℕ) (merges : List Merge) : Type 0 where
  pub all : sinks ≡ length merges + 1
  pub each : (place : ℕ) (merge : Merge) → slice_get merges place ≡ Some merge
      → IsMerge sinks (take place merges) merge

-- the first node has the second as its parent: the merge that joins it, or the source that of the
-- root
abbrev pub IsParent : (sinks : ℕ) → List Merge → (node parent : ℕ) → Type 0
IsParent sinks merges node parent =
    ((place : ℕ) × (parent ≡ sinks + place)
    × IsSomeAnd (slice_get merges place) (λ merge. Joins merge node))
    ⊎ ((node ≡ root_of sinks) × (parent ≡ source_of sinks))

-- the numbers of a node's sinks, where these are those of each
abbrev pub numbers_at : List (List ℕ) → ℕ → List ℕ
numbers_at sets node = slice_index_or sets node []

-- the sinks of each node, after more merges: a merge's are those of the two that it joins
abbrev pub sets_after : List (List ℕ) → List Merge → List (List ℕ)
sets_after sets [] = sets
sets_after sets (merge ∷ merges) = sets_after
    (sets ++ (numbers_at sets merge.first ++ numbers_at sets merge.second) ∷ []) merges

-- the sinks of each node in the order of the nodes, first those of each sink, itself alone
abbrev pub sets_of : (sinks : ℕ) → List Merge → List (List ℕ)
sets_of sinks merges = sets_after (map (λ sink. sink ∷ []) (range_with_len 0 sinks)) merges

-- the numbers of the sinks at or below a node
abbrev pub numbers_below : (sinks : ℕ) → List Merge → (node : ℕ) → List ℕ
numbers_below sinks merges node = numbers_at (sets_of sinks merges) node

-- the sinks at or below a node
abbrev pub sinks_below : List Sink → List Merge → (node : ℕ) → List Sink
sinks_below sinks merges node =
    filter_map (slice_get sinks) (numbers_below (length sinks) merges node)
