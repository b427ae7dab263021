-- Pairs that cost nothing are merged first, node by node.
use Rattle.topology.proofs.Vocabulary.{◌≡◌, ℕ, ◌<◌, ◌≤◌, ◌+◌, ◌^◌, List, [], ◌∷◌, ◌++◌, length, Option, Some, None, ℤ, pos, ◌+ℤ◌, ◌-ℤ◌, ◌≤ℤ◌, ◌<ℤ◌, inl, inr, refl, sym, ap, subst, ◌∙◌, arith, int_max, Contains, IsPermutation, IsSomeAnd, option_to_list, cases_lt, ints, clamps, by_lt_z, Contains-permutation, IsPermutation-sym, Sink, Merge, sinks_below, Cluster, IsCluster, cost_of, gap_of, cost_reach, append_is_union, one_greatest_span, Live, Pair, IsBefore, merge_of, HasCluster, IsKept, IsMerging, IsPair, IsCheapestPair, IsCovered, IsJoined, IsNearest, IsOrdered, IsSwept, AreLive, owner_of}
use Rattle.topology.proofs.CoverLemmas.{contains_cases, search_next}
use Rattle.topology.proofs.EntryLemmas.{node_within, one_cluster}
use Rattle.topology.proofs.JoinLemmas.{merged_live, some_left, still_cases, were_cheapest}
use Rattle.topology.proofs.MergeLemmas.{cheapest_is}
use Rattle.topology.proofs.NearLemmas.{before_along, cost_least}
use Rattle.topology.proofs.PairLemmas.{owner_ahead}

-- ---- merging two clusters that cost nothing brings them no nearer to a third

shrinks : (gap one other both third less more : ℤ)
    → int_max (int_max gap (one -ℤ other)) (other -ℤ one) ≡ pos 0
    → both +ℤ both ≡ one +ℤ other +ℤ int_max (int_max gap (one -ℤ other)) (other -ℤ one)
    → (third +ℤ one +ℤ less) ≤ℤ (third +ℤ both +ℤ more) → less ≤ℤ more
shrinks gap one other both third less more free twice far =
    omega (arith, ints, clamps, free, twice, far)

cost_grows : (third first second : List Sink) (cluster one other both : Cluster)
    → IsCluster third cluster → IsCluster first one → IsCluster second other
    → IsCluster (first ++ second) both → cost_of one other ≡ pos 0
    → cost_of cluster one ≤ℤ cost_of cluster both
cost_grows third first second cluster one other both held one_held other_held both_held free =
    let less = cost_reach third first _ cluster.reach one.reach (cost_of cluster one)
    cluster.region one.region (append_is_union third first) held one_held refl in
    let more = cost_reach third (first ++ second) _ cluster.reach both.reach
    (cost_of cluster both) cluster.region both.region (append_is_union third (first ++ second)) held
    both_held refl in
    let twice = one_greatest_span _ _ _ _ both_held.reach
    (cost_reach first second _ one.reach other.reach (cost_of one other) one.region other.region
    (append_is_union first second) one_held other_held refl) in
    shrinks (gap_of one.region other.region) one.reach other.reach both.reach cluster.reach
    (cost_of cluster one) (cost_of cluster both) free twice
    (subst (λ z. z ≤ℤ (cluster.reach +ℤ both.reach +ℤ cost_of cluster both)) less.shown
    (more.most less.one less.other (among less.one less.one_among)
    (among less.other less.other_among)))
  where
    among : (sink : Sink) → Contains (third ++ first) sink
        → Contains (third ++ (first ++ second)) sink
    among sink has = elim ((append_is_union third first).from_either sink has) [
      | inl in_third ↦ (append_is_union third (first ++ second)).first_in sink in_third
      | inr in_first ↦ (append_is_union third (first ++ second)).second_in sink
          ((append_is_union first second).first_in sink in_first)
    ]

-- ---- before the first node

pub sweep_starts : (sinks : List Sink) (merges : List Merge) (live : Live) (kept : List Pair)
    → merges ≡ [] → kept ≡ [] → 0 < length sinks → live.early + 1 ≡ 2 ^ 32
    → AreLive sinks [] live → IsSwept sinks merges live kept 0
sweep_starts sinks merges live kept none empty some early held = search arith

-- ---- a node that is swept

-- while all nodes are early each pair is kept at the first
owner_first : (live : Live) (pair : Pair) → IsOrdered live → live.early + 1 ≡ 2 ^ 32
    → IsPair live pair → owner_of live.early pair ≡ pair.first
owner_first live pair ordered early is = search (arith, owner_ahead, node_within)

-- a pair of the node that costs nothing is the cheapest of all
pub free_is_cheapest : (sinks : List Sink) (merges : List Merge) (live : Live) (kept : List Pair)
    (node : ℕ) (pair : Pair) → IsOrdered live → IsSwept sinks merges live kept node
    → IsNearest live node (Some pair) → pair.cost ≡ pos 0 → IsCheapestPair live pair
free_is_cheapest sinks merges live kept node pair ordered held nearest free = record {
  pair = own.pair;
  least = λ other is before.
      let first = owner_first live other ordered held.early is in
      elim (cases_lt other.first node) [
        | inl below ↦
            let found = held.covered other is (omega (arith, first, below)) in
            costly found.least other before found.at_most (held.costly found.least found.among)
        | inr from ↦ elim (cases_lt node other.first) [
          | inl behind ↦ later other is before
              (omega (
                arith,
                behind,
                own.owner,
                owner_first live pair ordered held.early own.pair,
              ))
          | inr to ↦ nearest.bound other
              (record { pair = is; owner = first ∙ omega (arith, from, to) }) before
        ]
      ];
}
  where
    own : IsKept live node pair
    own = nearest.there pair refl

    costly : (least other : Pair) → IsBefore other pair → ¬ IsBefore other least
        → pos 0 <ℤ least.cost → ⊥
    costly least other before not_least cost = search (arith, ints)

    later : (other : Pair) → IsPair live other → IsBefore other pair → pair.first < other.first → ⊥
    later other is before behind = elim before [
      | inl less ↦ omega (arith, ints, less, free, is.cost, cost_least is.one is.other)
      | inr (_, inl first) ↦ omega (arith, first, behind)
      | inr (_, inr (first, _)) ↦ omega (arith, first, behind)
    ]

-- it is merged, and the nodes before it are as far from the node made as from the first of the two
pub sweep_merges : (sinks : List Sink) (merges : List Merge) (old new : Live) (kept : List Pair)
    (node : ℕ) (pair : Pair) → IsOrdered old → IsOrdered new → IsSwept sinks merges old kept node
    → IsNearest old node (Some pair) → pair.cost ≡ pos 0 → IsJoined old new pair
    → IsSwept sinks (merges ++ merge_of pair ∷ []) new kept (node + 1)
sweep_merges sinks merges old new kept node pair ordered still_ordered held nearest free joined =
    record {
      live = live;
      rest = some_left sinks (merges ++ merge_of pair ∷ []) new (length old.keys) joined.both
          still_ordered live joined.made;
      cheapest = were_cheapest sinks merges (merge_of pair) held.cheapest
          (cheapest_is held.live pair cheapest);
      early = early;
      costly = held.costly;
      made = λ other among. omega (arith, held.made other among, joined.count);
      covered = covered;
    }
  where
    cheapest : IsCheapestPair old pair
    cheapest = free_is_cheapest sinks merges old kept node pair ordered held nearest free

    live : AreLive sinks (merges ++ merge_of pair ∷ []) new
    live = merged_live held.live joined cheapest.pair
        (λ place merge here. (held.cheapest place merge here).merges)

    early : new.early + 1 ≡ 2 ^ 32
    early = ap (λ n. n + 1) joined.early ∙ held.early

    first_is : pair.first ≡ node
    first_is = sym (owner_first old pair ordered held.early cheapest.pair)
        ∙ (nearest.there pair refl).owner

    -- what the two cost
    no_cost : cost_of joined.one joined.other ≡ pos 0
    no_cost = ap (cost_of joined.one) (one_cluster joined.other cheapest.pair.other
        (sym joined.second ∙ cheapest.pair.second))
        ∙ ap (λ c. cost_of c cheapest.pair.other) (one_cluster joined.one cheapest.pair.one
        (sym joined.first ∙ cheapest.pair.first))
        ∙ sym cheapest.pair.cost ∙ free

    not_itself : (other : Pair) → ¬ IsBefore other other
    not_itself other before = elim before [
      | inl less ↦ omega (arith, ints, less)
      | inr (_, inl below) ↦ omega (arith, below)
      | inr (_, inr (_, below)) ↦ omega (arith, below)
    ]

    not_less : (a b c : ℤ) → a <ℤ b → a ≡ c → b ≤ℤ c → ⊥
    not_less a b c less same most = omega (arith, ints, less, same, most)

    farther : (other : Pair) (is : IsPair new other) → HasCluster old other.first is.one
        → other.second ≡ length old.keys → joined.both ≡ is.other → ¬ IsBefore other (record {
          cost = cost_of is.one joined.one;
          first = other.first;
          second = pair.first;
        })
    farther other is was last both before = elim before [
      | inl less ↦ not_less other.cost (cost_of is.one joined.one) (cost_of is.one is.other) less
          is.cost (subst (λ c. cost_of is.one joined.one ≤ℤ cost_of is.one c) both
          (cost_grows (sinks_below sinks merges other.first) (sinks_below sinks merges pair.first)
          (sinks_below sinks merges pair.second) is.one joined.one joined.other joined.both
          (held.live.clusters other.first is.one was) first_held second_held
          (joined.joined _ _ _ (append_is_union _ _) first_held second_held) no_cost))
      | inr (_, inl below) ↦ omega (arith, below)
      | inr (_, inr (_, below)) ↦ omega (
        arith,
        below,
        last,
        node_within old pair.first joined.one joined.first,
      )
    ]
      where
        first_held : IsCluster (sinks_below sinks merges pair.first) joined.one
        first_held = held.live.clusters pair.first joined.one joined.first

        second_held : IsCluster (sinks_below sinks merges pair.second) joined.other
        second_held = held.live.clusters pair.second joined.other joined.second

    covers : (other was : Pair) → IsPair new other → IsPair old was → was.first ≡ other.first
        → other.first < node → ¬ IsBefore other was → IsCovered new.early kept other
    covers other was is is_was first below not_before =
        let was_first = owner_first old was ordered held.early is_was in
        let found = held.covered was is_was (omega (arith, was_first, first, below)) in
        record {
          least = found.least;
          among = found.among;
          owner = subst (λ n. owner_of n found.least ≡ other.first) (sym joined.early)
              (found.owner ∙ was_first ∙ first)
              ∙ sym (owner_first new other still_ordered early is);
          at_most = λ before. before_along other was found.least before found.at_most not_before;
        }

    covered : (other : Pair) → IsPair new other → owner_of new.early other < node + 1
        → IsCovered new.early kept other
    covered other is below =
        let first = owner_first new other still_ordered early is in
        elim (still_cases held.live joined other.first is.one is.first) [
          | inl (last, _) ↦ absurd (omega (
            arith,
            last,
            is.ordered,
            node_within new other.second is.other is.second,
            joined.count,
          ))
          | inr (was, not_first, _) ↦
              let before : other.first < node = omega (
                arith,
                first,
                below,
                not_first,
                first_is,
              ) in
              elim (still_cases held.live joined other.second is.other is.second) [
                | inl (last, both) ↦ covers other
                    (record {
                      cost = cost_of is.one joined.one;
                      first = other.first;
                      second = pair.first;
                    }) is (record {
                      one = is.one;
                      other = joined.one;
                      ordered = omega (arith, before, first_is);
                      first = was;
                      second = joined.first;
                      cost = refl;
                    }) refl before (farther other is was last both)
                | inr (second, _, _) ↦ covers other other is (record {
                  one = is.one;
                  other = is.other;
                  ordered = is.ordered;
                  first = was;
                  second = second;
                  cost = is.cost;
                }) refl before (not_itself other)
              ]
        ]

-- where it costs something the node keeps the pair
pub sweep_keeps : (sinks : List Sink) (merges : List Merge) (live : Live) (kept new : List Pair)
    (node : ℕ) (found : Option Pair) → IsSwept sinks merges live kept node
    → IsNearest live node found → ¬ IsSomeAnd found (λ pair. pair.cost ≡ pos 0)
    → IsPermutation (option_to_list found ++ kept) new → IsSwept sinks merges live new (node + 1)
sweep_keeps sinks merges live kept new node found held nearest some moved = record {
  live = held.live;
  rest = held.rest;
  cheapest = held.cheapest;
  early = held.early;
  costly = λ pair among. (each found nearest.there some pair (was pair among)).0;
  made = λ pair among. (each found nearest.there some pair (was pair among)).1;
  covered = search_next live node kept new found held.covered nearest moved;
}
  where
    was : (pair : Pair) → Contains new pair → Contains (option_to_list found ++ kept) pair
    was pair among = Contains-permutation new (option_to_list found ++ kept) pair
        (IsPermutation-sym (option_to_list found ++ kept) new moved) among

    costs : (cost : ℤ) → pos 0 ≤ℤ cost → (cost ≡ pos 0 → ⊥) → pos 0 <ℤ cost
    costs cost least some = by_lt_z (pos 0) cost (λ above. above)
        (λ most. absurd (some (omega (arith, ints, most, least))))

    each : (o : Option Pair) → ((pair : Pair) → o ≡ Some pair → IsKept live node pair)
        → ¬ IsSomeAnd o (λ pair. pair.cost ≡ pos 0) → (pair : Pair)
        → Contains (option_to_list o ++ kept) pair
        → (pos 0 <ℤ pair.cost) × (pair.second < length live.keys)
    each None there some pair among = (held.costly pair among, held.made pair among)
    each (Some least) there some pair among = elim (contains_cases least pair kept among) [
      | inl is ↦
          let own = (there least refl).pair in
          subst (λ (p : Pair). (pos 0 <ℤ p.cost) × (p.second < length live.keys)) is (
            costs least.cost (subst (λ z. pos 0 ≤ℤ z) (sym own.cost) (cost_least own.one own.other))
                some,
            node_within live least.second own.other own.second,
          )
      | inr before ↦ (held.costly pair before, held.made pair before)
    ]

-- ---- all nodes are swept

-- from now on pairs of further nodes are kept at these
abbrev pub settled : Live → Live
settled live = record {
  early = length live.keys;
  axis = live.axis;
  clusters = live.clusters;
  keys = live.keys;
  order = live.order;
  widest = live.widest;
}

pub sweep_ends : (sinks : List Sink) (merges : List Merge) (live : Live) (kept : List Pair)
    (node : ℕ) → IsOrdered live → IsSwept sinks merges live kept node → length live.keys ≤ node
    → IsMerging sinks merges (settled live) kept
sweep_ends sinks merges live kept node ordered held ends = record {
  live = record {
    count = held.live.count;
    clusters = held.live.clusters;
    unjoined = held.live.unjoined;
    left = held.live.left;
  };
  rest = held.rest;
  cheapest = held.cheapest;
  pairs = record { early = omega arith; covered = λ pair is _. covered pair is };
}
  where
    covered : (pair : Pair) → IsPair (settled live) pair → IsCovered (length live.keys) kept pair
    covered pair is =
        let was : IsPair live pair = record {
          one = is.one;
          other = is.other;
          ordered = is.ordered;
          first = is.first;
          second = is.second;
          cost = is.cost;
        } in
        let within = node_within live pair.second is.other is.second in
        let first = owner_first live pair ordered held.early was in
        let found = held.covered pair was (omega (arith, first, within, is.ordered, ends)) in
        let made = held.made found.least found.among in
        record {
          least = found.least;
          among = found.among;
          owner = (owner_ahead (length live.keys) found.least made).0
              ∙ sym (owner_ahead live.early found.least
              (omega (arith, made, ordered.few, held.early))).0
              ∙ found.owner ∙ first ∙ sym (owner_ahead (length live.keys) pair within).0;
          at_most = found.at_most;
        }
