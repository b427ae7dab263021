-- Which clusters there are, as sinks are added and pairs are merged.
use Rattle.topology.proofs.Vocabulary.{◌≡◌, ◌≢◌, ◌⊎◌, ℕ, ◌<◌, ◌≤◌, ◌+◌, List, [], ◌∷◌, ◌++◌, length, length-append, add-zero, get_or, take, Option, Some, None, inl, inr, refl, sym, ap, subst, ◌∙◌, arith, IsNone, IsSome, option_to_list, All, slice_get, IsPermutation, cases_eq, le-ltb, take-append-le, All-append, All-cons, All-nil, slice_get-get_or, Sink, Merge, IsCheapest, IsLive, sinks_below, Cluster, IsCluster, append_is_union, Live, Pair, merge_of, HasCluster, IsPair, IsCheapestPair, IsAdded, IsJoined, IsLeft, IsMerging, IsNearest, IsOrdered, AreCovered, AreKept, AreLive, WereCheapest, AreFirstSinks, IsUnjoined, cluster_of, owner_of}
use Rattle.std.proofs.Math.ListN.{get_or-append}
use Rattle.std.proofs.Math.Logic.{∥∥₁_elim}
use Rattle.std.proofs.Math.Seq.{get_or-append_seam, take-append_seam}
use Rattle.std.specs.Coded.{le_prop}
use Rattle.cts_model.proofs.TopologyLemmas.{EachMerge, first_made, second_made, sinks_below-append, sinks_below-push, sinks_below-sink}
use Rattle.cts_model.specs.Vocabulary.{IsUnion}
use Rattle.topology.proofs.CoverLemmas.{search_next}
use Rattle.topology.proofs.EntryLemmas.{has_unjoined, node_within, one_cluster, place_there, unjoined_there}
use Rattle.topology.proofs.ListLemmas.{pushed_cases}
use Rattle.topology.proofs.MergeLemmas.{cheapest_is, node_live}

-- ---- the sinks one by one

pub sink_added : (sinks : List Sink) (register : ℕ) (sink : Sink) (old new : Live)
    (cluster : Cluster) → slice_get sinks register ≡ Some sink → IsCluster (sink ∷ []) cluster
    → AreFirstSinks sinks register old → IsAdded old new cluster
    → AreFirstSinks sinks (register + 1) new
sink_added sinks register sink old new cluster here alone held added = record {
  early = ap (λ n. n + 1) added.early ∙ held.early;
  count = omega (arith, added.count, held.count);
  clusters = λ node found has. elim (cases_eq node (length old.keys)) [
    | inl last ↦ subst (λ c. IsCluster (sinks_below sinks [] node) c)
        (one_cluster cluster found (sym added.made ∙ ap (cluster_of new) (sym last) ∙ has))
        (subst (λ xs. IsCluster xs cluster)
        (sym (ap (sinks_below sinks []) (last ∙ held.count)
        ∙ sinks_below-sink sinks [] register sink here)) alone)
    | inr differs ↦ held.clusters node found (sym (added.others node differs) ∙ has)
  ];
  unjoined = λ node below. elim (cases_eq node (length old.keys)) [
    | inl last ↦ has_unjoined new node cluster (ap (cluster_of new) last ∙ added.made)
    | inr differs ↦ subst IsSome (sym (added.others node differs))
        (held.unjoined node (omega (arith, below, differs, held.count)))
  ];
  left = omega (arith, added.left, held.left);
}

-- all sinks are live before the first merge
pub sinks_live : (sinks : List Sink) (live : Live) → AreFirstSinks sinks (length sinks) live
    → AreLive sinks [] live
sinks_live sinks live held = search (arith, add-zero, unjoined_there, node_within, All-nil)

-- ---- two clusters are merged

-- the merge doesn't join the node
abbrev Spares : ℕ → Merge → Type 0
Spares node merge = (merge.first ≢ node) × (merge.second ≢ node)

-- live nodes after one merge more
live_before : (sinks : ℕ) (merges : List Merge) (merge : Merge) (node : ℕ)
    → IsLive sinks (merges ++ merge ∷ []) node → (node ≡ sinks + length merges)
    ⊎ (IsLive sinks merges node × Spares node merge)
live_before sinks merges merge node live = elim (cases_eq node (sinks + length merges)) [
  | inl is ↦ inl is
  | inr differs ↦ inr (
    record {
      made = omega (arith, live.made, differs, length-append merges (merge ∷ []));
      unjoined = λ k d within. subst (Spares node) (get_or-append merges (merge ∷ []) d k within)
          (live.unjoined k d (omega (arith, within, length-append merges (merge ∷ []))));
    },
    subst (Spares node) (get_or-append_seam merges merge [] merge)
        (live.unjoined (length merges) merge (omega (arith, length-append merges (merge ∷ [])))),
  )
]

live_after : (sinks : ℕ) (merges : List Merge) (merge : Merge) (node : ℕ) → IsLive sinks merges node
    → Spares node merge → IsLive sinks (merges ++ merge ∷ []) node
live_after sinks merges merge node live spares = record {
  made = omega (arith, live.made, length-append merges (merge ∷ []));
  unjoined = All-append (Spares node) merges (merge ∷ []) live.unjoined
      (All-cons (Spares node) merge [] spares (All-nil (Spares node)));
}

-- the node that a merge makes is live
live_made : (sinks : ℕ) (merges : List Merge) (merge : Merge) → EachMerge sinks merges
    → merge.first < sinks + length merges → merge.second < sinks + length merges
    → IsLive sinks (merges ++ merge ∷ []) (sinks + length merges)
live_made sinks merges merge each first second = record {
  made = omega (arith, length-append merges (merge ∷ []));
  unjoined = All-append (Spares (sinks + length merges)) merges (merge ∷ []) earlier
      (All-cons (Spares (sinks + length merges)) merge []
      (differs merge.first first, differs merge.second second)
      (All-nil (Spares (sinks + length merges))));
}
  where
    differs : (node : ℕ) → node < sinks + length merges → node ≢ (sinks + length merges)
    differs node below is = omega (arith, below, is)

    earlier : All (Spares (sinks + length merges)) merges
    earlier k d within =
        let here = slice_get-get_or merges k d within in (
          differs (get_or merges k d).first
              (omega (arith, within, first_made sinks merges each k (get_or merges k d) here)),
          differs (get_or merges k d).second
              (omega (arith, within, second_made sinks merges each k (get_or merges k d) here)),
        )

-- both clusters of a pair were taken out, and that of their sinks was added
pub joins : (old middle last new : Live) (pair : Pair) (one other both : Cluster)
    → pair.first < pair.second → HasCluster old pair.first one → IsLeft old middle pair.first
    → HasCluster middle pair.second other → IsLeft middle last pair.second
    → ((first second sinks : List Sink) → IsUnion first second sinks → IsCluster first one
    → IsCluster second other → IsCluster sinks both) → IsAdded last new both → IsJoined old new pair
joins old middle last new pair one other both ordered first left second also_left joined
    added = record {
      one = one;
      other = other;
      both = both;
      first = first;
      second = second_was;
      joined = joined;
      early = added.early ∙ also_left.early ∙ left.early;
      count = omega (arith, added.count, counts);
      left = omega (arith, added.left, also_left.left, left.left);
      made = ap (cluster_of new) (sym counts) ∙ added.made;
      first_gone = added.others pair.first (λ is. omega (arith, is, counts, ordered, within))
          ∙ also_left.others pair.first (λ is. omega (arith, is, ordered)) ∙ left.gone;
      second_gone = added.others pair.second (λ is. omega (arith, is, counts, within))
          ∙ also_left.gone;
      others = λ node not_first not_second not_made.
          added.others node (λ is. not_made (is ∙ counts))
          ∙ also_left.others node not_second ∙ left.others node not_first;
    }
  where
    counts : length last.keys ≡ length old.keys
    counts = also_left.count ∙ left.count

    second_was : HasCluster old pair.second other
    second_was = sym (left.others pair.second (λ is. omega (arith, is, ordered))) ∙ second

    within : pair.second < length old.keys
    within = node_within old pair.second other second_was

module _ {sinks : List Sink} {merges : List Merge} {old new : Live} {pair : Pair}
    (held : AreLive sinks merges old) (joined : IsJoined old new pair) where
  -- a cluster after the merge is that of the node made, or was there and isn't one of the two
  pub still_cases : (node : ℕ) (cluster : Cluster) → HasCluster new node cluster
      → ((node ≡ length old.keys) × (joined.both ≡ cluster))
      ⊎ (HasCluster old node cluster × (node ≢ pair.first) × (node ≢ pair.second))
  still_cases node cluster has = elim (cases_eq node (length old.keys)) [
    | inl last ↦ inl (
      last,
      one_cluster joined.both cluster (sym joined.made ∙ ap (cluster_of new) (sym last) ∙ has),
    )
    | inr differs ↦
        let first : node ≢ pair.first = λ is. none cluster
        (sym joined.first_gone ∙ ap (cluster_of new) (sym is) ∙ has) in
        let second : node ≢ pair.second = λ is. none cluster
        (sym joined.second_gone ∙ ap (cluster_of new) (sym is) ∙ has) in
        inr (sym (joined.others node first second differs) ∙ has, first, second)
  ]
    where
      none : (cluster : Cluster) → None ≡ Some cluster → ⊥
      none cluster is = absurd (cc)

  still : (node : ℕ) → IsUnjoined old node → node ≢ pair.first → node ≢ pair.second
      → IsUnjoined new node
  still node was first second = search (arith, unjoined_there, node_within)

  module _ (is_pair : IsPair old pair) where
    -- a pair that is there after the merge was there, or has the node made
    pub pair_was : (other : Pair) → IsPair new other
        → (other.second ≡ length old.keys) ⊎ IsPair old other
    pair_was other is = elim (still_cases other.second is.other is.second) [
      | inl (last, _) ↦ inl last
      | inr (second, _, _) ↦ elim (still_cases other.first is.one is.first) [
        | inl (first, _) ↦ absurd (omega (
          arith,
          first,
          is.ordered,
          node_within old other.second is.other second,
        ))
        | inr (first, _, _) ↦ inr (record {
          one = is.one;
          other = is.other;
          ordered = is.ordered;
          first = first;
          second = second;
          cost = is.cost;
        })
      ]
    ]

    -- after a merge there is a cluster for each live node again
    pub merged_live : EachMerge (length sinks) merges
        → AreLive sinks (merges ++ merge_of pair ∷ []) new
    merged_live each = record {
      count = omega (arith, joined.count, held.count, length-append merges (merge_of pair ∷ []));
      clusters = λ node cluster has. elim (still_cases node cluster has) [
        | inl (last, is) ↦ subst (λ c. IsCluster
            (sinks_below sinks (merges ++ merge_of pair ∷ []) node) c) is
            (subst (λ xs. IsCluster xs joined.both)
            (sym (ap (sinks_below sinks (merges ++ merge_of pair ∷ [])) (last ∙ held.count)
            ∙ sinks_below-push sinks merges (merge_of pair)))
            (joined.joined (sinks_below sinks merges pair.first)
            (sinks_below sinks merges pair.second) _ (append_is_union _ _)
            (held.clusters pair.first joined.one joined.first)
            (held.clusters pair.second joined.other joined.second)))
        | inr (was, _, _) ↦ subst (λ xs. IsCluster xs cluster)
            (sym (sinks_below-append sinks merges (merge_of pair ∷ []) node
            (omega (arith, node_within old node cluster was, held.count))))
            (held.clusters node cluster was)
      ];
      unjoined = λ node. (
        λ is.
            let (cluster, has) = unjoined_there new node is in
            elim (still_cases node cluster has) [
              | inl (last, _) ↦ subst (IsLive (length sinks) (merges ++ merge_of pair ∷ []))
                  (sym (last ∙ held.count)) (live_made (length sinks) merges (merge_of pair) each
                  (node_live held pair.first is_pair.one is_pair.first).made
                  (node_live held pair.second is_pair.other is_pair.second).made)
              | inr (was, first, second) ↦ live_after (length sinks) merges (merge_of pair) node
                  (node_live held node cluster was)
                  (λ same. first (sym same), λ same. second (sym same))
            ],
        λ is. elim (live_before (length sinks) merges (merge_of pair) node is) [
          | inl last ↦ has_unjoined new node joined.both
              (ap (cluster_of new) (last ∙ sym held.count) ∙ joined.made)
          | inr (was, (first, second)) ↦ still node ((held.unjoined node).1 was)
              (λ same. first (sym same)) (λ same. second (sym same))
        ],
      );
      left = omega (arith, joined.left, held.left, length-append merges (merge_of pair ∷ []));
    }

    -- pairs of the nodes that were there stay covered
    pub joined_covers : (kept : List Pair) → AreKept old kept
        → AreCovered new (length old.keys) kept
    joined_covers kept was_kept = λ other is below. elim (pair_was other is) [
      | inl last ↦ absurd (omega (
        arith,
        behind new.early other (omega (arith, last, joined.early, was_kept.early)),
        below,
        last,
      ))
      | inr was ↦
          let found = was_kept.covered other was
          (subst (λ n. owner_of n other < length old.keys) joined.early below) in
          record {
            least = found.least;
            among = found.among;
            owner = subst (λ n. owner_of n found.least ≡ owner_of n other) (sym joined.early)
                found.owner;
            at_most = found.at_most;
          }
    ]
      where
        behind : (early : ℕ) (pair : Pair) → early ≤ pair.second → owner_of early pair ≡ pair.second
        behind early pair from = rw (le-ltb pair.second early from) refl

-- ---- the merges one by one

-- while a cluster is left not all merges are made
pub some_left : (sinks : List Sink) (merges : List Merge) (live : Live) (node : ℕ)
    (cluster : Cluster) → IsOrdered live → AreLive sinks merges live → HasCluster live node cluster
    → length merges < length sinks
some_left sinks merges live node cluster ordered held has =
    ∥∥₁_elim (place_there live node cluster ordered has) le_prop
    (λ (place, within, _). omega (arith, within, held.left))

-- one merge more
pub were_cheapest : (sinks : List Sink) (merges : List Merge) (merge : Merge)
    → WereCheapest sinks merges → IsCheapest sinks merges merge
    → WereCheapest sinks (merges ++ merge ∷ [])
were_cheapest sinks merges merge held cheapest = λ place next here.
    elim (pushed_cases merges merge place next here) [
      | inl (before, was) ↦ subst (λ earlier. IsCheapest sinks earlier next)
          (sym (take-append-le place merges (merge ∷ []) (omega (arith, before))))
          (held place next was)
      | inr (last, is) ↦ subst (IsCheapest sinks (take place (merges ++ merge ∷ []))) is
          (subst (λ earlier. IsCheapest sinks earlier merge)
          (sym (ap (λ k. take k (merges ++ merge ∷ [])) last ∙ take-append_seam merges
          (merge ∷ []))) cheapest)
    ]

pub merging_next : (sinks : List Sink) (merges : List Merge) (old new : Live)
    (before chosen kept : List Pair) (pair : Pair) (found : Option Pair)
    → IsOrdered new → IsMerging sinks merges old before → AreKept old chosen
    → IsCheapestPair old pair → IsJoined old new pair → IsNearest new (length old.keys) found
    → IsPermutation (option_to_list found ++ chosen) kept
    → IsMerging sinks (merges ++ merge_of pair ∷ []) new kept
merging_next sinks merges old new before chosen kept pair found ordered held now cheapest joined
    nearest moved = record {
      live = live;
      rest = some_left sinks (merges ++ merge_of pair ∷ []) new (length old.keys) joined.both
          ordered live joined.made;
      cheapest = were_cheapest sinks merges (merge_of pair) held.cheapest
          (cheapest_is held.live pair cheapest);
      pairs = record {
        early = omega (arith, joined.early, joined.count, now.early);
        covered = subst (λ n. AreCovered new n kept) (sym joined.count)
            (search_next new (length old.keys) chosen kept found
            (joined_covers held.live joined cheapest.pair chosen now) nearest moved);
      };
    }
  where
    live : AreLive sinks (merges ++ merge_of pair ∷ []) new
    live = merged_live held.live joined cheapest.pair
        (λ place merge here. (held.cheapest place merge here).merges)

-- while more than one cluster is left a pair is found
pub some_found : (live : Live) (found : Option Pair)
    → (IsNone found → (pair : Pair) → ¬ IsPair live pair)
    → (pair : Pair) × IsPair live pair → IsSome found
some_found live None none there = absurd (none refl there.0 there.1)
some_found live (Some pair) none there = refl
