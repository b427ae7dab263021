-- The clusters of the nodes, under their keys and at their places.
use Rattle.topology.proofs.Vocabulary.{◌≡◌, ℕ, ◌<◌, Option, Some, None, get_or, length, pos, refl, sym, ap, subst, ◌∙◌, slice_get, slice_index_or, IsSome, IsSomeAnd, option_and_then, option_map, option_map_or, get_or_default, slice_get-get_or, slice_get_within, get, Cluster, Entry, Live, low_on, HasCluster, IsAt, IsOrdered, IsUnder, IsUnjoined, cluster_of, entry_at, low_at, node_at}
use Rattle.std.proofs.Math.Logic.{∥∥₁_map}

-- ---- under a key

pub one_cluster : (one other : Cluster) → Some one ≡ Some other → one ≡ other
one_cluster one other is = cc

-- the one of two keys is the other
pub one_key : (key other : ℕ) → ◌≡◌ {A = Option (Option ℕ)} (Some (Some key)) (Some (Some other))
    → key ≡ other
one_key key other is = cc

pub some_there : {A : Type 0} (o : Option A) → IsSome o → (x : A) × (o ≡ Some x)
some_there None none = absurd (cc)
some_there (Some x) some = (x, refl)

pub some_with : {A : Type 0} (P : A → Type 0) (o : Option A) → IsSomeAnd o P
    → (x : A) × (o ≡ Some x) × P x
some_with P None none = absurd none
some_with P (Some x) holds = (x, refl, holds)

-- what is under the key of a node is its cluster
pub under_is : (live : Live) (key node : ℕ) (entry : Entry) → IsUnder live key node
    → get live.clusters key ≡ Some entry → (entry.node ≡ node) × HasCluster live node entry.cluster
under_is live key node entry (keyed, under) here = (
  subst (λ o. IsSomeAnd o (λ found. found.node ≡ node)) here under,
  ap (option_and_then (option_and_then (λ k. option_map (λ (found : Entry). found.cluster)
      (get live.clusters k)))) keyed ∙ ap (option_map (λ (found : Entry). found.cluster)) here,
)

-- a node that no merge joins has a key
pub record IsStored (live : Live) (node : ℕ) (cluster : Cluster) : Type 0 where
  pub key : ℕ
  pub entry : Entry
  pub keyed : slice_get live.keys node ≡ Some (Some key)
  pub there : get live.clusters key ≡ Some entry
  pub is : entry.cluster ≡ cluster

pub stored : (live : Live) (node : ℕ) (cluster : Cluster) → HasCluster live node cluster
    → IsStored live node cluster
stored live node cluster = at (slice_get live.keys node) refl
  where
    at : (o : Option (Option ℕ)) → slice_get live.keys node ≡ o
        → option_and_then (option_and_then (λ k. option_map (λ (found : Entry). found.cluster)
        (get live.clusters k))) o ≡ Some cluster → IsStored live node cluster
    at None keyed is = absurd (cc)
    at (Some None) keyed is = absurd (cc)
    at (Some (Some key)) keyed is = under (get live.clusters key) refl is
      where
        under : (o : Option Entry) → get live.clusters key ≡ o
            → option_map (λ (found : Entry). found.cluster) o ≡ Some cluster
            → IsStored live node cluster
        under None there is = absurd (cc)
        under (Some entry) there is = record {
          key = key;
          entry = entry;
          keyed = keyed;
          there = there;
          is = one_cluster entry.cluster cluster is;
        }

-- a node with no key has no cluster
pub no_key : (live : Live) (node : ℕ) → slice_get live.keys node ≡ Some None
    → cluster_of live node ≡ None
no_key live node none = ap (option_and_then (option_and_then (λ k. option_map
    (λ (found : Entry). found.cluster) (get live.clusters k)))) none

-- under a key is one node's cluster
pub one_node : (live : Live) (key node other : ℕ) → IsUnder live key node
    → IsUnder live key other → node ≡ other
one_node live key node other under other_under =
    let (entry, here, is) = some_with _ (get live.clusters key) under.1 in
    sym is ∙ (under_is live key other entry other_under here).0

pub unjoined_there : (live : Live) (node : ℕ) → IsUnjoined live node
    → (cluster : Cluster) × HasCluster live node cluster
unjoined_there live node = some_there (cluster_of live node)

pub has_unjoined : (live : Live) (node : ℕ) (cluster : Cluster) → HasCluster live node cluster
    → IsUnjoined live node
has_unjoined live node cluster has = subst IsSome (sym has) refl

pub node_within : (live : Live) (node : ℕ) (cluster : Cluster) → HasCluster live node cluster
    → node < length live.keys
node_within live node cluster has =
    let found = stored live node cluster has in
    slice_get_within live.keys node (Some found.key) found.keyed

-- the key that is read of a node that no merge joins is its own
pub key_is : (live : Live) (node key : ℕ) → IsUnjoined live node
    → get_or live.keys node None ≡ Some key → slice_get live.keys node ≡ Some (Some key)
key_is live node key unjoined read =
    let (cluster, has) = unjoined_there live node unjoined in
    slice_get-get_or live.keys node None (node_within live node cluster has) ∙ ap Some read

-- a node keeps its cluster where it keeps its key and what is under that
pub cluster_kept : (old new : Live) (node : ℕ)
    → slice_get new.keys node ≡ slice_get old.keys node
    → ((key : ℕ) → slice_get old.keys node ≡ Some (Some key)
    → get new.clusters key ≡ get old.clusters key) → cluster_of new node ≡ cluster_of old node
cluster_kept old new node same kept =
    ap (option_and_then (option_and_then (λ k. option_map (λ (found : Entry). found.cluster)
    (get new.clusters k)))) same ∙ at (slice_get old.keys node) kept
  where
    at : (o : Option (Option ℕ))
        → ((key : ℕ) → o ≡ Some (Some key) → get new.clusters key ≡ get old.clusters key)
        → option_and_then (option_and_then (λ k. option_map (λ (found : Entry). found.cluster)
        (get new.clusters k))) o
        ≡ option_and_then (option_and_then (λ k. option_map (λ (found : Entry). found.cluster)
        (get old.clusters k))) o
    at None kept = refl
    at (Some None) kept = refl
    at (Some (Some key)) kept = ap (option_map (λ (found : Entry). found.cluster)) (kept key refl)

-- so does what is under a key
pub under_kept : (old new : Live) (key node : ℕ) → IsUnder old key node
    → slice_get new.keys node ≡ slice_get old.keys node
    → get new.clusters key ≡ get old.clusters key → IsUnder new key node
under_kept old new key node (keyed, under) same kept = (
  same ∙ keyed,
  subst (λ o. IsSomeAnd o (λ found. found.node ≡ node)) (sym kept) under,
)

-- ---- at a place

pub entry_is : (live : Live) (place : ℕ) (entry : Entry) → IsOrdered live
    → place < length live.order.items → entry_at live place ≡ Some entry → IsAt live place entry
entry_is live place entry ordered within here =
    let node : node_at live place ≡ entry.node = ap
    (λ o. option_map_or (λ (found : Entry). found.node) o 0) here in
    let (_, has) = under_is live (slice_index_or live.order.items place 0) (node_at live place)
    entry (ordered.placed place within) here in
    record {
      node = node;
      low = ap (λ o. option_map_or (λ (found : Entry). low_on live.axis found.cluster) o (pos 0))
          here;
      has = subst (λ n. HasCluster live n entry.cluster) node has;
    }

pub entry_there : (live : Live) (place : ℕ) → IsOrdered live → place < length live.order.items
    → (entry : Entry) × (entry_at live place ≡ Some entry)
entry_there live place ordered within =
    let (entry, here, _) = some_with _ (entry_at live place) (ordered.placed place within).1 in
    (entry, here)

-- a place begins where its node's cluster does
pub low_is : (live : Live) (place : ℕ) (cluster : Cluster) → IsOrdered live
    → place < length live.order.items → HasCluster live (node_at live place) cluster
    → low_at live place ≡ low_on live.axis cluster
low_is live place cluster ordered within has =
    let (entry, here) = entry_there live place ordered within in
    let at = entry_is live place entry ordered within here in
    at.low ∙ ap (low_on live.axis) (one_cluster entry.cluster cluster
    (sym at.has ∙ ap (cluster_of live) (sym at.node) ∙ has))

pub placed_within : (live : Live) (place : ℕ) → IsOrdered live → place < length live.order.items
    → node_at live place < length live.keys
placed_within live place ordered within = slice_get_within live.keys (node_at live place)
    (Some (slice_index_or live.order.items place 0)) (ordered.placed place within).0

-- each node that no merge joins has a place
pub place_there : (live : Live) (node : ℕ) (cluster : Cluster) → IsOrdered live
    → HasCluster live node cluster
    → ∥ ((place : ℕ) × (place < length live.order.items) × (node_at live place ≡ node)) ∥₁
place_there live node cluster ordered has =
    let found = stored live node cluster has in
    ∥∥₁_map (ordered.all node found.key found.keyed) (λ (place, within, here). (
      place,
      within,
      ap (λ k. option_map_or (λ (entry : Entry). entry.node) (get live.clusters k) 0)
          (get_or_default live.order.items place 0 found.key within ∙ here)
          ∙ ap (λ o. option_map_or (λ (entry : Entry). entry.node) o 0) found.there
          ∙ (under_is live found.key node found.entry (ordered.keyed node found.key found.keyed)
          found.there).0,
    ))
