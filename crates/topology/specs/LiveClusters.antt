-- The clusters that no merge joins yet, and which pairs of them are kept.
use Rattle.std.specs.Prelude.{◌≡◌, ◌≢◌, ◌↔◌, ◌⊎◌, ℕ, ◌<◌, ◌≤◌, ◌+◌, Option, Some, None, IsSome, IsSomeAnd, option_map, List, [], Contains, length, take, slice_get, slice_index_or, ℤ, pos, ◌+ℤ◌, ◌≤ℤ◌, ◌<ℤ◌, nat_lt, if◌then◌else◌, ◌^◌}
use Rattle.std.specs.Option.{option_and_then, option_map_or}
use Rattle.slab.specs.Slab.{get}
use Rattle.cts_model.specs.declared.place.Sink.{Sink}
use Rattle.cts_model.specs.declared.tree.Merge.{Merge}
use Rattle.cts_model.specs.Vocabulary.{IsBelow, IsCheapest, IsLive, sinks_below, IsUnion}
use Rattle.tilted_rect.specs.declared.cluster.Cluster.{Cluster}
use Rattle.tilted_rect.specs.ClusterSets.{IsCluster, cost_of}
use Rattle.topology.specs.declared.live.Entry.{Entry}
use Rattle.topology.specs.declared.live.Live.{Live}
use Rattle.topology.specs.declared.pair.Pair.{Pair}
use Rattle.topology.specs.Axes.{high_on, low_on}
use Rattle.topology.specs.Pairs.{IsAtMost, IsBefore}

-- ---- the clusters of the nodes

-- the cluster of a node, until a merge joins it
abbrev pub cluster_of : Live → (node : ℕ) → Option Cluster
cluster_of live node = option_and_then (option_and_then (λ key. option_map
    (λ entry. entry.cluster) (get live.clusters key))) (slice_get live.keys node)

-- the node has that cluster, and no merge joins it yet
abbrev pub HasCluster : Live → (node : ℕ) → Cluster → Type 0
HasCluster live node cluster = cluster_of live node ≡ Some cluster

-- no merge joins the node yet
abbrev pub IsUnjoined : Live → (node : ℕ) → Type 0
IsUnjoined live node = IsSome (cluster_of live node)

-- ---- pairs

-- the pair is of two clusters that no merge joins yet
pub record IsPair (live : Live) (pair : Pair) : Type 0 where
  pub one : Cluster
  pub other : Cluster
  pub ordered : pair.first < pair.second
  pub first : HasCluster live pair.first one
  pub second : HasCluster live pair.second other
  pub cost : pair.cost ≡ cost_of one other

-- a pair of two early nodes is kept at the first, any other at the later one
abbrev pub owner_of : (early : ℕ) → Pair → ℕ
owner_of early pair = if nat_lt pair.second early then pair.first else pair.second

-- the other cluster of a pair
abbrev pub other_of : (early : ℕ) → Pair → ℕ
other_of early pair = if nat_lt pair.second early then pair.second else pair.first

-- the pair is kept at that node
pub record IsKept (live : Live) (node : ℕ) (kept : Pair) : Type 0 where
  pub pair : IsPair live kept
  pub owner : owner_of live.early kept ≡ node

-- the pair is kept at that node, with that other
pub record IsKeptWith (live : Live) (owner node : ℕ) (pair : Pair) : Type 0 where
  pub kept : IsKept live owner pair
  pub other : other_of live.early pair ≡ node

-- no pair that is kept at the node is to be merged before the one that is found
pub record IsNearest (live : Live) (owner : ℕ) (found : Option Pair) : Type 0 where
  pub bound : (pair : Pair) → IsKept live owner pair → IsAtMost found pair
  pub there : (pair : Pair) → found ≡ Some pair → IsKept live owner pair

-- ---- the order of the clusters

-- what stands at a place of the order
abbrev pub entry_at : Live → (place : ℕ) → Option Entry
entry_at live place = get live.clusters (slice_index_or live.order.items place 0)

-- the number of the node there
abbrev pub node_at : Live → (place : ℕ) → ℕ
node_at live place = option_map_or (λ entry. entry.node) (entry_at live place) 0

-- where its cluster begins
abbrev pub low_at : Live → (place : ℕ) → ℤ
low_at live place =
    option_map_or (λ entry. low_on live.axis entry.cluster) (entry_at live place) (pos 0)

-- what stands at the place is that node with its cluster
pub record IsAt (live : Live) (place : ℕ) (entry : Entry) : Type 0 where
  pub node : node_at live place ≡ entry.node
  pub low : low_at live place ≡ low_on live.axis entry.cluster
  pub has : HasCluster live entry.node entry.cluster

-- under the key is the cluster of that node
abbrev pub IsUnder : Live → (key node : ℕ) → Type 0
IsUnder live key node = (slice_get live.keys node ≡ Some (Some key))
    × IsSomeAnd (get live.clusters key) (λ entry. entry.node ≡ node)

-- each cluster that no merge joins stands in the order under its node's key, by where it begins and
-- then by the node's number, and none is wider than that
pub record IsOrdered (live : Live) : Type 0 where
  pub few : length live.keys < 2 ^ 32
  pub keyed : (node key : ℕ) → slice_get live.keys node ≡ Some (Some key) → IsUnder live key node
  pub placed : (place : ℕ) → place < length live.order.items
      → IsUnder live (slice_index_or live.order.items place 0) (node_at live place)
  pub all : (node key : ℕ) → slice_get live.keys node ≡ Some (Some key)
      → ∥ Contains live.order.items key ∥₁
  pub ascending : (place later : ℕ) → place ≤ later → later < length live.order.items
      → low_at live place ≤ℤ low_at live later
  pub numbered : (place later : ℕ) → place < later → later < length live.order.items
      → low_at live place ≡ low_at live later → node_at live place < node_at live later
  pub below : IsBelow (10 ^ 34) live.widest
  pub wide : (node : ℕ) (cluster : Cluster) → HasCluster live node cluster
      → high_on live.axis cluster ≤ℤ (low_on live.axis cluster +ℤ live.widest)

-- the node at a place stands before another, whose cluster begins there
abbrev pub StandsBefore : Live → (place : ℕ) → (low : ℤ) → (node : ℕ) → Type 0
StandsBefore live place low node = (low_at live place <ℤ low)
    ⊎ ((low_at live place ≡ low) × (node_at live place < node))

-- the pair costs less than a gap, or as much and with a node below that one
abbrev pub IsPast : (early : ℕ) → Pair → (gap : ℤ) → (node : ℕ) → Type 0
IsPast early pair gap node = (pair.cost <ℤ gap)
    ⊎ ((pair.cost ≡ gap) × (other_of early pair < node))

-- of the pairs that are kept at a node, with others at places passed, none is to be merged before
-- the one that is found
pub record IsLooked (live : Live) (owner : ℕ) (IsPassed : ℕ → Type 0)
    (old new : Option Pair) : Type 0 where
  pub stays : (pair : Pair) → IsAtMost old pair → IsAtMost new pair
  pub bound : (place : ℕ) (pair : Pair) → IsPassed place → place < length live.order.items
      → IsKeptWith live owner (node_at live place) pair → IsAtMost new pair
  pub there : (pair : Pair) → new ≡ Some pair → (old ≡ Some pair) ⊎ IsKept live owner pair

-- ---- kept pairs

-- a pair is kept that isn't to be merged after it, at the same node
pub record IsCovered (early : ℕ) (kept : List Pair) (pair : Pair) : Type 0 where
  pub least : Pair
  pub among : Contains kept least
  pub owner : owner_of early least ≡ owner_of early pair
  pub at_most : ¬ IsBefore pair least

-- so it is for each pair of a node below that number
abbrev pub AreCovered : Live → (from : ℕ) → (kept : List Pair) → Type 0
AreCovered live from kept = (pair : Pair) → IsPair live pair → owner_of live.early pair < from
    → IsCovered live.early kept pair

-- so it is for each pair
pub record AreKept (live : Live) (kept : List Pair) : Type 0 where
  pub early : live.early ≤ length live.keys
  pub covered : AreCovered live (length live.keys) kept

-- no pair of two clusters is to be merged before that one
abbrev pub IsFirstOf : Live → (first : Option Pair) → Type 0
IsFirstOf live first = (pair : Pair) → IsPair live pair → IsAtMost first pair

-- the pair is of two clusters, and none is to be merged before it
pub record IsCheapestPair (live : Live) (cheapest : Pair) : Type 0 where
  pub pair : IsPair live cheapest
  pub least : (other : Pair) → IsPair live other → ¬ IsBefore other cheapest

-- ---- how they change

-- the cluster of one node more
pub record IsAdded (old new : Live) (cluster : Cluster) : Type 0 where
  pub early : new.early ≡ old.early
  pub count : length new.keys ≡ length old.keys + 1
  pub left : length new.order.items ≡ length old.order.items + 1
  pub made : HasCluster new (length old.keys) cluster
  pub others : (node : ℕ) → node ≢ length old.keys → cluster_of new node ≡ cluster_of old node

-- a merge joins that node
pub record IsLeft (old new : Live) (node : ℕ) : Type 0 where
  pub early : new.early ≡ old.early
  pub count : length new.keys ≡ length old.keys
  pub left : length new.order.items + 1 ≡ length old.order.items
  pub gone : cluster_of new node ≡ None
  pub others : (other : ℕ) → other ≢ node → cluster_of new other ≡ cluster_of old other

-- the two clusters of a pair are merged into one of a node more
pub record IsJoined (old new : Live) (pair : Pair) : Type 0 where
  pub one : Cluster
  pub other : Cluster
  pub both : Cluster
  pub first : HasCluster old pair.first one
  pub second : HasCluster old pair.second other
  pub joined : (first second sinks : List Sink) → IsUnion first second sinks
      → IsCluster first one → IsCluster second other → IsCluster sinks both
  pub early : new.early ≡ old.early
  pub count : length new.keys ≡ length old.keys + 1
  pub left : length new.order.items + 1 ≡ length old.order.items
  pub made : HasCluster new (length old.keys) both
  pub first_gone : cluster_of new pair.first ≡ None
  pub second_gone : cluster_of new pair.second ≡ None
  pub others : (node : ℕ) → node ≢ pair.first → node ≢ pair.second → node ≢ length old.keys
      → cluster_of new node ≡ cluster_of old node

-- ---- what the clusters are

-- each cluster is that of the sinks below its node, and those that no merge joins are live
pub record AreLive (sinks : List Sink) (merges : List Merge) (live : Live) : Type 0 where
  pub count : length live.keys ≡ length sinks + length merges
  pub clusters : (node : ℕ) (cluster : Cluster) → HasCluster live node cluster
      → IsCluster (sinks_below sinks merges node) cluster
  pub unjoined : (node : ℕ) → IsUnjoined live node ↔ IsLive (length sinks) merges node
  pub left : length live.order.items + length merges ≡ length sinks

-- so many of the first sinks have their clusters
pub record AreFirstSinks (sinks : List Sink) (register : ℕ) (live : Live) : Type 0 where
  pub early : live.early + 1 ≡ 2 ^ 32
  pub count : length live.keys ≡ register
  pub clusters : (node : ℕ) (cluster : Cluster) → HasCluster live node cluster
      → IsCluster (sinks_below sinks [] node) cluster
  pub unjoined : (node : ℕ) → node < register → IsUnjoined live node
  pub left : length live.order.items ≡ register

-- the merges so far were each the cheapest when they were made
abbrev pub WereCheapest : List Sink → List Merge → Type 0
WereCheapest sinks merges = (place : ℕ) (merge : Merge) → slice_get merges place ≡ Some merge
    → IsCheapest sinks (take place merges) merge

-- all is right after so many merges
pub record IsMerging (sinks : List Sink) (merges : List Merge) (clusters : Live)
    (kept : List Pair) : Type 0 where
  pub live : AreLive sinks merges clusters
  pub rest : length merges < length sinks
  pub cheapest : WereCheapest sinks merges
  pub pairs : AreKept clusters kept

-- and so it is while all nodes are early, and those below that number cost something to merge with
-- any later one
pub record IsSwept (sinks : List Sink) (merges : List Merge) (clusters : Live) (kept : List Pair)
    (node : ℕ) : Type 0 where
  pub live : AreLive sinks merges clusters
  pub rest : length merges < length sinks
  pub cheapest : WereCheapest sinks merges
  pub early : clusters.early + 1 ≡ 2 ^ 32
  pub costly : (pair : Pair) → Contains kept pair → pos 0 <ℤ pair.cost
  pub made : (pair : Pair) → Contains kept pair → pair.second < length clusters.keys
  pub covered : AreCovered clusters node kept
