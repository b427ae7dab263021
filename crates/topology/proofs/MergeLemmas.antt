-- Each merge of the cheapest pair keeps the clusters and the merges so far right.
use Rattle.topology.proofs.Vocabulary.{◌≡◌, ◌⊎◌, ℕ, ◌<◌, ◌≤◌, ◌+◌, List, length, ℤ, ◌+ℤ◌, ◌-ℤ◌, ◌≤ℤ◌, inl, inr, refl, sym, ap, subst, arith, cases_lt, ints, by_lt_z, Sink, Merge, IsCheaper, IsDoubleCost, IsCheapest, IsLive, IsMerge, sinks_below, Cluster, IsCluster, cost_of, append_is_union, cost_reach, one_greatest_span, Live, Pair, merge_of, HasCluster, IsOrdered, IsPair, IsCheapestPair, AreLive, node_at}
use Rattle.topology.proofs.EntryLemmas.{entry_is, entry_there, has_unjoined, low_is, unjoined_there}

-- ---- the cheapest pair is the cheapest merge

-- what isn't to be merged before another is that one, or comes after it
after_or_same : (cost : ℤ) (merge : Merge) (other_cost : ℤ) (other : Merge)
    → ¬ IsCheaper other_cost other cost merge
    → ((other.first ≡ merge.first) × (other.second ≡ merge.second))
    ⊎ IsCheaper cost merge other_cost other
after_or_same cost merge other_cost other not_before =
    by_lt_z cost other_cost (λ below. inr (inl below))
    (λ above. by_lt_z other_cost cost (λ before. absurd (not_before (inl before)))
    (λ most. at (equal cost other_cost above most)))
  where
    equal : (a b : ℤ) → b ≤ℤ a → a ≤ℤ b → a ≡ b
    equal a b above below = omega (arith, ints)

    at : cost ≡ other_cost → ((other.first ≡ merge.first) × (other.second ≡ merge.second))
        ⊎ IsCheaper cost merge other_cost other
    at same = search (arith, cases_lt)

-- twice the cost of merging two clusters, by their sinks
double_cost : (sinks : List Sink) (merges : List Merge) (merge : Merge) (one other : Cluster)
    → IsCluster (sinks_below sinks merges merge.first) one
    → IsCluster (sinks_below sinks merges merge.second) other
    → IsDoubleCost sinks merges merge (cost_of one other +ℤ cost_of one other)
double_cost sinks merges merge one other below other_below = record {
  both = one.reach +ℤ other.reach +ℤ cost_of one other;
  first = one.reach +ℤ one.reach;
  second = other.reach +ℤ other.reach;
  first_reach = below.reach;
  second_reach = other_below.reach;
  both_reach = cost_reach (sinks_below sinks merges merge.first)
      (sinks_below sinks merges merge.second) _ one.reach other.reach (cost_of one other)
      one.region other.region (append_is_union _ _) below other_below refl;
  value = twice one.reach other.reach (cost_of one other);
}
  where
    twice : (a b cost : ℤ) → cost +ℤ cost ≡ (a +ℤ b +ℤ cost) +ℤ (a +ℤ b +ℤ cost) -ℤ (a +ℤ a) -ℤ
        (b +ℤ b)
    twice a b cost = omega (arith, ints)

-- a merge has one cost
one_cost : (sinks : List Sink) (merges : List Merge) (merge : Merge) (cost other : ℤ)
    → IsDoubleCost sinks merges merge cost → IsDoubleCost sinks merges merge other → cost ≡ other
one_cost sinks merges merge cost other held also =
    same held.both held.first held.second also.both also.first also.second cost other
    (one_greatest_span _ _ _ _ held.both_reach also.both_reach)
    (one_greatest_span _ _ _ _ held.first_reach also.first_reach)
    (one_greatest_span _ _ _ _ held.second_reach also.second_reach) held.value also.value
  where
    same : (a b c a' b' c' cost other : ℤ) → a ≡ a' → b ≡ b' → c ≡ c' → cost ≡ a +ℤ a -ℤ b -ℤ c
        → other ≡ a' +ℤ a' -ℤ b' -ℤ c' → cost ≡ other
    same a b c a' b' c' cost other both first second is is' = omega (arith, ints)

module _ {sinks : List Sink} {merges : List Merge} {live : Live}
    (held : AreLive sinks merges live) where
  pub node_live : (node : ℕ) (cluster : Cluster) → HasCluster live node cluster
      → IsLive (length sinks) merges node
  node_live node cluster has = (held.unjoined node).0 (has_unjoined live node cluster has)

  live_cluster : (node : ℕ) → IsLive (length sinks) merges node
      → (cluster : Cluster) × HasCluster live node cluster
  live_cluster node is = unjoined_there live node ((held.unjoined node).1 is)

  pub cheapest_is : (pair : Pair) → IsCheapestPair live pair
      → IsCheapest sinks merges (merge_of pair)
  cheapest_is pair cheapest = record {
    merges = record {
      ordered = cheapest.pair.ordered;
      first = node_live pair.first cheapest.pair.one cheapest.pair.first;
      second = node_live pair.second cheapest.pair.other cheapest.pair.second;
    };
    cost = pair.cost +ℤ pair.cost;
    costs = subst (λ z. IsDoubleCost sinks merges (merge_of pair) (z +ℤ z))
        (sym cheapest.pair.cost)
        (double_cost sinks merges (merge_of pair) cheapest.pair.one cheapest.pair.other
        (held.clusters pair.first cheapest.pair.one cheapest.pair.first)
        (held.clusters pair.second cheapest.pair.other cheapest.pair.second));
    least = least;
  }
    where
      merge_is : (one other : Merge) → one.first ≡ other.first → one.second ≡ other.second
          → one ≡ other
      merge_is one other first second = λ i. record { first = first i; second = second i }

      doubled : (a b : ℤ) (one other : Merge) → IsCheaper a one b other
          → IsCheaper (a +ℤ a) one (b +ℤ b) other
      doubled a b one other (inl below) = inl (omega (arith, ints, below))
      doubled a b one other (inr (same, lower)) = inr (ap (λ z. z +ℤ z) same, lower)

      least : (other : Merge) (other_cost : ℤ) → IsMerge (length sinks) merges other
          → IsDoubleCost sinks merges other other_cost → (other ≡ merge_of pair)
          ⊎ IsCheaper (pair.cost +ℤ pair.cost) (merge_of pair) other_cost other
      least other other_cost joins costs =
          let (one, has) = live_cluster other.first joins.first in
          let (two, other_has) = live_cluster other.second joins.second in
          let next = cost_of one two in
          let next_is : next +ℤ next ≡ other_cost = one_cost sinks merges other (next +ℤ next)
          other_cost (double_cost sinks merges other one two
          (held.clusters other.first one has)
          (held.clusters other.second two other_has)) costs in
          let not_before : ¬ IsCheaper next other pair.cost (merge_of pair) = cheapest.least
          (record { cost = next; first = other.first; second = other.second }) (record {
            one = one;
            other = two;
            ordered = joins.ordered;
            first = has;
            second = other_has;
            cost = refl;
          }) in
          elim (after_or_same pair.cost (merge_of pair) next other not_before) [
            | inl (first, second) ↦ inl (merge_is other (merge_of pair) first second)
            | inr cheaper ↦ inr (subst
                (λ z. IsCheaper (pair.cost +ℤ pair.cost) (merge_of pair) z other) next_is
                (doubled pair.cost next (merge_of pair) other cheaper))
          ]

-- ---- while two clusters are left there is a pair

pub pair_there : (sinks : List Sink) (merges : List Merge) (live : Live) → IsOrdered live
    → AreLive sinks merges live → length merges + 2 ≤ length sinks
    → (pair : Pair) × IsPair live pair
pair_there sinks merges live ordered held two =
    let (one, has) = has_at 0 (omega (arith, two, held.left)) in
    let (other, other_has) = has_at 1 (omega (arith, two, held.left)) in
    elim (cases_lt (node_at live 0) (node_at live 1)) [
      | inl below ↦ pair_of _ _ one other below has other_has
      | inr from ↦ elim (cases_lt (node_at live 1) (node_at live 0)) [
        | inl above ↦ pair_of _ _ other one above other_has has
        | inr to ↦ absurd (apart one other has other_has (omega (arith, from, to)))
      ]
    ]
  where
    has_at : (place : ℕ) → place < length live.order.items
        → (cluster : Cluster) × HasCluster live (node_at live place) cluster
    has_at place within =
        let (entry, here) = entry_there live place ordered within in
        let at = entry_is live place entry ordered within here in
        (entry.cluster, subst (λ n. HasCluster live n entry.cluster) (sym at.node) at.has)

    -- the two stand at places of their own
    apart : (one other : Cluster) → HasCluster live (node_at live 0) one
        → HasCluster live (node_at live 1) other → node_at live 0 ≡ node_at live 1 → ⊥
    apart one other has other_has same = search (arith, low_is)

    pair_of : (node other_node : ℕ) (one other : Cluster) → node < other_node
        → HasCluster live node one → HasCluster live other_node other
        → (pair : Pair) × IsPair live pair
    pair_of node other_node one other below has other_has = (
      record { cost = cost_of one other; first = node; second = other_node },
      record {
        one = one;
        other = other;
        ordered = below;
        first = has;
        second = other_has;
        cost = refl;
      },
    )
