-- A search for the cheapest pair that a node keeps.
use Rattle.topology.proofs.Vocabulary.{◌≡◌, ◌↔◌, ◌⊎◌, ℕ, ◌<◌, ◌≤◌, cond, Option, Some, None, length, ℤ, pos, ◌-ℤ◌, ◌≤ℤ◌, ◌<ℤ◌, inl, inr, refl, sym, ap, subst, ◌∙◌, ◌^◌, FitsSigned, arith, int_max, w128, nat_lt, IsSomeAnd, cases_lt, lt-ltb, le-ltb, ints, clamps, IsBelow, Cluster, cost_of, gap_of, Axis, U, V, Reach, Live, Pair, high_on, low_on, IsBefore, IsAtMost, IsCheaperOf, HasCluster, IsPair, IsKept, IsKeptWith, IsLooked, IsNearest, IsOrdered, IsPast, cluster_of, low_at, node_at, owner_of, other_of}
use Rattle.std.proofs.Math.Logic.{∥∥₁_elim}
use Rattle.std.proofs.Props.{props}
use Rattle.tilted_rect.specs.Intervals.{between}
use Rattle.topology.proofs.EntryLemmas.{low_is, one_cluster, place_there}

-- ---- the order of pairs

-- what comes before a pair comes before all that isn't before that one
pub before_along : (pair middle last : Pair) → IsBefore pair last → ¬ IsBefore middle last
    → ¬ IsBefore pair middle → ⊥
before_along pair middle last before not_middle not_pair = grind (arith, ints)

-- so a bound on a kept pair holds for one that isn't after it
pub at_most_along : (kept least : Option Pair) (pair : Pair) → IsAtMost kept pair
    → ((other : Pair) → kept ≡ Some other → IsAtMost least other) → IsAtMost least pair
at_most_along None least pair bound below = absurd bound
at_most_along (Some other) least pair bound below = at least (below other refl)
  where
    at : (o : Option Pair) → IsAtMost o other → IsAtMost o pair
    at None within = absurd within
    at (Some first) within = λ before. before_along pair other first before within bound

-- a pair that costs less than a gap is before one that costs no less than that
pub less_is_at_most : (least : Option Pair) (pair : Pair) (gap : ℤ)
    → IsSomeAnd least (λ found. found.cost <ℤ gap) → gap ≤ℤ pair.cost → IsAtMost least pair
less_is_at_most None pair gap less apart = absurd less
less_is_at_most (Some found) pair gap less apart = λ before. not_before before
  where
    not_before : IsBefore pair found → ⊥
    not_before before = grind (arith, ints, less, apart)

-- ---- what a pair costs

at_left : (a b c : ℤ) → a ≤ℤ b → a ≤ℤ int_max b c
at_left a b c is = omega (arith, ints, clamps)

at_right : (a b c : ℤ) → a ≤ℤ c → a ≤ℤ int_max b c
at_right a b c is = omega (arith, ints, clamps)

pub same_le : (a : ℤ) → a ≤ℤ a
same_le a = omega (arith, ints)

-- a cost is no less than the gap, nor than the gap on an axis
gap_most : (one other : Cluster) (a : ℤ) → a ≤ℤ gap_of one.region other.region
    → a ≤ℤ cost_of one other
gap_most one other a is = search (arith, at_left)

u_most : (one other : Cluster) (a : ℤ)
    → a ≤ℤ between one.region.ulo one.region.uhi other.region.ulo other.region.uhi
    → a ≤ℤ cost_of one other
u_most one other a is = search (arith, gap_most, at_left)

v_most : (one other : Cluster) (a : ℤ)
    → a ≤ℤ between one.region.vlo one.region.vhi other.region.vlo other.region.vhi
    → a ≤ℤ cost_of one other
v_most one other a is = search (arith, gap_most, at_right)

-- two intervals are no less apart than the one is above the other, or below it
up_between : (lo hi other_lo other_hi : ℤ)
    → (other_lo -ℤ hi) ≤ℤ between lo hi other_lo other_hi
up_between lo hi other_lo other_hi = omega (arith, ints, clamps)

down_between : (lo hi other_lo other_hi : ℤ)
    → (lo -ℤ other_hi) ≤ℤ between lo hi other_lo other_hi
down_between lo hi other_lo other_hi = omega (arith, ints, clamps)

none_between : (lo hi other_lo other_hi : ℤ) → pos 0 ≤ℤ between lo hi other_lo other_hi
none_between lo hi other_lo other_hi = omega (arith, ints, clamps)

-- so a cost is no less than the gap upwards on an axis, or downwards, and nothing at least
up_within : (axis : Axis) (one other : Cluster)
    → (low_on axis other -ℤ high_on axis one) ≤ℤ cost_of one other
up_within U one other = u_most one other (other.region.ulo -ℤ one.region.uhi)
    (up_between one.region.ulo one.region.uhi other.region.ulo other.region.uhi)
up_within V one other = v_most one other (other.region.vlo -ℤ one.region.vhi)
    (up_between one.region.vlo one.region.vhi other.region.vlo other.region.vhi)
up_within Reach one other = search (arith, at_right, same_le)

down_within : (axis : Axis) (one other : Cluster)
    → (low_on axis one -ℤ high_on axis other) ≤ℤ cost_of one other
down_within U one other = u_most one other (one.region.ulo -ℤ other.region.uhi)
    (down_between one.region.ulo one.region.uhi other.region.ulo other.region.uhi)
down_within V one other = v_most one other (one.region.vlo -ℤ other.region.vhi)
    (down_between one.region.vlo one.region.vhi other.region.vlo other.region.vhi)
down_within Reach one other = search (arith, at_left, at_right, same_le)

pub cost_least : (one other : Cluster) → pos 0 ≤ℤ cost_of one other
cost_least one other = u_most one other (pos 0)
    (none_between one.region.ulo one.region.uhi other.region.ulo other.region.uhi)

-- it is the same in either order
between_turned : (lo hi other_lo other_hi : ℤ)
    → between lo hi other_lo other_hi ≡ between other_lo other_hi lo hi
between_turned lo hi other_lo other_hi = omega (arith, ints, clamps)

greatest_turned : (gap other_gap over under : ℤ) → gap ≡ other_gap
    → int_max (int_max gap over) under ≡ int_max (int_max other_gap under) over
greatest_turned gap other_gap over under same = omega (arith, ints, clamps, same)

cost_turned : (one other : Cluster) → cost_of one other ≡ cost_of other one
cost_turned one other = search (arith, between_turned, greatest_turned)

-- ---- the two nodes of a pair

-- the owner is the one of them, and the other is the other
pub sides : (early : ℕ) (pair : Pair) (owner node : ℕ) → owner_of early pair ≡ owner
    → other_of early pair ≡ node
    → ((pair.first ≡ owner) × (pair.second ≡ node)) ⊎ ((pair.first ≡ node) × (pair.second ≡ owner))
sides early pair owner node = search arith

-- no merge joins the other
pub other_has : (live : Live) (owner : ℕ) (pair : Pair) → IsKept live owner pair
    → (cluster : Cluster) × HasCluster live (other_of live.early pair) cluster
other_has live owner pair kept = elim (sides live.early pair owner _ kept.owner refl) [
  | inl (_, second) ↦
      (kept.pair.other, ap (cluster_of live) (sym second) ∙ kept.pair.second)
  | inr (first, _) ↦ (kept.pair.one, ap (cluster_of live) (sym first) ∙ kept.pair.first)
]

same_cluster : (live : Live) (node other_node : ℕ) (one other : Cluster) → node ≡ other_node
    → HasCluster live node one → HasCluster live other_node other → one ≡ other
same_cluster live node other_node one other is here there =
    one_cluster one other (sym here ∙ ap (cluster_of live) is ∙ there)

-- a pair costs no less than its two clusters are apart on an axis
pub record IsApart (axis : Axis) (one other : Cluster) (cost : ℤ) : Type 0 where
  pub up : (low_on axis other -ℤ high_on axis one) ≤ℤ cost
  pub down : (low_on axis one -ℤ high_on axis other) ≤ℤ cost

apart : (axis : Axis) (one other : Cluster) (cost : ℤ) → cost ≡ cost_of one other
    → IsApart axis one other cost
apart axis one other cost is = record {
  up = subst (λ z. (low_on axis other -ℤ high_on axis one) ≤ℤ z) (sym is)
      (up_within axis one other);
  down = subst (λ z. (low_on axis one -ℤ high_on axis other) ≤ℤ z) (sym is)
      (down_within axis one other);
}

pub kept_apart : (live : Live) (owner node : ℕ) (pair : Pair) (cluster : Cluster)
    → IsKeptWith live owner node pair → HasCluster live owner cluster
    → (other : Cluster) × HasCluster live node other × IsApart live.axis cluster other pair.cost
kept_apart live owner node pair cluster held has = elim
    (sides live.early pair owner node held.kept.owner held.other) [
      | inl (first, second) ↦ (
        parts.other,
        ap (cluster_of live) (sym second) ∙ parts.second,
        subst (λ c. IsApart live.axis c parts.other pair.cost)
            (same_cluster live pair.first owner parts.one cluster first parts.first
            has) (apart live.axis parts.one parts.other pair.cost parts.cost),
      )
      | inr (first, second) ↦ (
        parts.one,
        ap (cluster_of live) (sym first) ∙ parts.first,
        subst (λ c. IsApart live.axis c parts.one pair.cost)
            (same_cluster live pair.second owner parts.other cluster second parts.second
            has) (turned (apart live.axis parts.one parts.other pair.cost parts.cost)),
      )
    ]
  where
    parts : IsPair live pair
    parts = held.kept.pair

    turned : {one other : Cluster} {cost : ℤ} → IsApart live.axis one other cost
        → IsApart live.axis other one cost
    turned is = record { up = is.down; down = is.up }

-- and just what the two cost
pub kept_cost : (live : Live) (owner node : ℕ) (pair : Pair) (cluster other : Cluster)
    → IsKeptWith live owner node pair → HasCluster live owner cluster
    → HasCluster live node other → pair.cost ≡ cost_of cluster other
kept_cost live owner node pair cluster other held has other_has = elim
    (sides live.early pair owner node held.kept.owner held.other) [
      | inl (first, second) ↦ parts.cost
          ∙ ap (λ c. cost_of c parts.other) (same_cluster live pair.first owner parts.one cluster
          first parts.first has)
          ∙ ap (cost_of cluster) (same_cluster live pair.second node parts.other other second
          parts.second other_has)
      | inr (first, second) ↦ parts.cost ∙ cost_turned parts.one parts.other
          ∙ ap (λ c. cost_of c parts.one) (same_cluster live pair.second owner parts.other cluster
          second parts.second has)
          ∙ ap (cost_of cluster) (same_cluster live pair.first node parts.one other first
          parts.first other_has)
    ]
  where
    parts : IsPair live pair
    parts = held.kept.pair

-- of pairs with one owner that of the lower other is the lower
pub lower_from : (s p q e f : ℕ) → p < q → e < f → cond (nat_lt q s) p q ≡ cond (nat_lt f s) e f
    → (p < e) ⊎ ((p ≡ e) × (q < f)) → cond (nat_lt q s) q p < cond (nat_lt f s) f e
lower_from s p q e f ordered other_ordered = search (arith, cases_lt, lt-ltb, le-ltb)

-- ---- the search

module _ {live : Live} {owner : ℕ} where
  -- one node alone, whose pair is kept or not
  pub look_keeps : (node : ℕ) (old new found : Option Pair) → IsCheaperOf old found new
      → ((pair : Pair) → (found ≡ Some pair) ↔ IsKeptWith live owner node pair)
      → IsLooked live owner (λ place. node_at live place ≡ node) old new
  look_keeps node old new found cheaper law = search (arith, at_most_along)

  -- one node alone, which has no cheaper pair
  pub look_leaves : (node : ℕ) (least : Option Pair)
      → ((pair : Pair) → IsKeptWith live owner node pair → IsAtMost least pair)
      → IsLooked live owner (λ place. node_at live place ≡ node) least least
  look_leaves node least no_cheaper = search arith

  -- one node more
  pub look_next : (IsPassed IsPassedNext : ℕ → Type 0) (old now next : Option Pair)
      (place node : ℕ) → node ≡ node_at live place
      → ((other : ℕ) → IsPassedNext other → IsPassed other ⊎ (other ≡ place))
      → IsLooked live owner IsPassed old now
      → IsLooked live owner (λ k. node_at live k ≡ node) now next
      → IsLooked live owner IsPassedNext old next
  look_next IsPassed IsPassedNext old now next place node is more held step = search arith

  -- where the others are too far
  pub look_stops : (IsPassed IsWanted : ℕ → Type 0) (old now : Option Pair) (gap : ℤ)
      → IsLooked live owner IsPassed old now → IsSomeAnd now (λ pair. pair.cost <ℤ gap)
      → ((other : ℕ) → IsWanted other → IsPassed other ⊎ ((pair : Pair)
      → other < length live.order.items
      → IsKeptWith live owner (node_at live other) pair → gap ≤ℤ pair.cost))
      → IsLooked live owner IsWanted old now
  look_stops IsPassed IsWanted old now gap held less rest = search (arith, less_is_at_most)

  -- where those that are as near have higher numbers
  pub look_passes : (IsPassed IsWanted : ℕ → Type 0) (old now : Option Pair) (gap : ℤ) (node : ℕ)
      → IsLooked live owner IsPassed old now
      → ((pair : Pair) → now ≡ Some pair → IsKept live owner pair)
      → IsSomeAnd now (λ pair. IsPast live.early pair gap node)
      → ((other : ℕ) → IsWanted other → IsPassed other ⊎ ((pair : Pair)
      → other < length live.order.items → IsKeptWith live owner (node_at live other) pair
      → (gap ≤ℤ pair.cost) × (pair.cost ≡ gap → node ≤ other_of live.early pair)))
      → IsLooked live owner IsWanted old now
  look_passes IsPassed IsWanted old now gap node held kept past rest = record {
    stays = held.stays;
    bound = λ other pair wanted below with_it. elim (rest other wanted) [
      | inl before ↦ held.bound other pair before below with_it
      | inr far ↦
          let (apart, behind) = far pair below with_it in
          at now kept past pair with_it.kept apart behind
    ];
    there = held.there;
  }
    where
      at : (o : Option Pair) → ((pair : Pair) → o ≡ Some pair → IsKept live owner pair)
          → IsSomeAnd o (λ pair. IsPast live.early pair gap node)
          → (pair : Pair) → IsKept live owner pair → gap ≤ℤ pair.cost
          → (pair.cost ≡ gap → node ≤ other_of live.early pair) → IsAtMost o pair
      at None kept past pair has apart behind = absurd past
      at (Some found) kept (inl less) pair has apart behind =
          less_is_at_most (Some found) pair gap less apart
      at (Some found) kept (inr (same, lower)) pair has apart behind = λ before. elim before [
        | inl less ↦ omega (arith, ints, less, same, apart)
        | inr (cost, first) ↦ omega (
          arith,
          lower,
          behind (cost ∙ same),
          lower_from live.early pair.first pair.second found.first found.second has.pair.ordered
              (kept found refl).pair.ordered (has.owner ∙ sym (kept found refl).owner) first,
        )
      ]

  -- where all were looked at
  pub look_ends : (IsPassed IsWanted : ℕ → Type 0) (old now : Option Pair)
      → IsLooked live owner IsPassed old now
      → ((other : ℕ) → other < length live.order.items → IsWanted other → IsPassed other)
      → IsLooked live owner IsWanted old now
  look_ends IsPassed IsWanted old now held all = search arith

  module _ {cluster : Cluster} (ordered : IsOrdered live)
      (has : HasCluster live owner cluster) where
    -- from a place upwards all are as far
    pub far_above : (place other : ℕ) (pair : Pair) → place ≤ other
        → other < length live.order.items → IsKeptWith live owner (node_at live other) pair
        → (low_at live place -ℤ high_on live.axis cluster) ≤ℤ pair.cost
    far_above place other pair from below with_it =
        let (found, here, is) = kept_apart live owner _ pair cluster with_it has in
        let low = low_is live other found ordered below here in
        omega (arith, ints, is.up, low, ordered.ascending place other from below)

    -- and those as far have no lower number
    pub behind_above : (place other : ℕ) (pair : Pair) → place ≤ other
        → other < length live.order.items → IsKeptWith live owner (node_at live other) pair
        → pair.cost ≡ (low_at live place -ℤ high_on live.axis cluster)
        → node_at live place ≤ other_of live.early pair
    behind_above place other pair from below with_it same = elim (cases_lt place other) [
      | inl before ↦
          let (found, here, is) = kept_apart live owner _ pair cluster with_it has in
          let low = low_is live other found ordered below here in
          let equal : low_at live place
          ≡ low_at live other =
          as_low (low_at live place)
          (low_at live other) (low_on live.axis found) (high_on live.axis cluster)
          pair.cost same low is.up (ordered.ascending place other from below) in
          omega (arith, with_it.other, ordered.numbered place other before below equal)
      | inr to ↦
          let here : node_at live place ≡ node_at live other =
          ap (node_at live) (one_place place other from to) in
          omega (arith, with_it.other, here)
    ]
      where
        one_place : (a b : ℕ) → a ≤ b → b ≤ a → a ≡ b
        one_place a b to from = omega (arith, to, from)

        as_low : (a b ulo uhi cost : ℤ) → cost ≡ (a -ℤ uhi) → b ≡ ulo → (ulo -ℤ uhi) ≤ℤ cost
            → a ≤ℤ b → a ≡ b
        as_low a b ulo uhi cost same low up to = omega (arith, ints, same, low, up, to)

    -- and from a place downwards
    pub far_below : (place other : ℕ) (pair : Pair) → other ≤ place
        → place < length live.order.items → IsKeptWith live owner (node_at live other) pair
        → (low_on live.axis cluster -ℤ live.widest -ℤ low_at live place)
        ≤ℤ pair.cost
    far_below place other pair to below with_it =
        let (found, here, is) = kept_apart live owner _ pair cluster with_it has in
        let low = low_is live other found ordered (omega (arith, to, below)) here in
        omega (
          arith,
          ints,
          is.down,
          low,
          ordered.ascending other place to below,
          ordered.wide (node_at live other) found here,
        )

-- a gap downwards fits the code's numbers
pub gap_fits : (lo widest low : ℤ) → IsBelow (10 ^ 33) lo → IsBelow (10 ^ 34) widest
    → IsBelow (10 ^ 33) low → FitsSigned w128 (lo -ℤ widest -ℤ low)
gap_fits lo widest low below wide low_below = search (arith, ints)

-- the search upwards and that downwards from one place find the cheapest
pub looked_both : (live : Live) (owner from : ℕ) (middle found : Option Pair) → IsOrdered live
    → IsLooked live owner (λ place. from ≤ place) None middle
    → IsLooked live owner (λ place. place < from) middle found → IsNearest live owner found
looked_both live owner from middle found ordered up down = record {
  bound = λ pair held.
      let node = other_of live.early pair in
      let (cluster, has) = other_has live owner pair held in
      ∥∥₁_elim (place_there live node cluster ordered has) (hlevel props)
      (λ (place, below, here). elim (cases_lt place from) [
        | inl before ↦ down.bound place pair before below (record { kept = held; other = sym here })
        | inr behind ↦ down.stays pair (up.bound place pair behind below
            (record { kept = held; other = sym here }))
      ]);
  there = λ pair is. elim (down.there pair is) [
    | inl was ↦ elim (up.there pair was) [
      | inl none ↦ absurd (cc)
      | inr kept ↦ kept
    ]
    | inr kept ↦ kept
  ];
}

-- where the node has no cluster it keeps no pair
pub none_nearest : (live : Live) (owner : ℕ)
    → ((cluster : Cluster) → ¬ HasCluster live owner cluster) → IsNearest live owner None
none_nearest live owner none = search (arith, sides)
