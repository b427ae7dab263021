-- A sink of a node that is furthest to a side, and where it is found.
use Rattle.merge_up.proofs.Vocabulary.{◌≡◌, ◌⊎◌, inl, inr, ℕ, zero, suc, ◌+◌, ◌-◌, ◌<◌, ◌≤◌, List, [], ◌∷◌, ◌++◌, Option, None, Some, unwrap_or, IfSome, Contains, IsSomeAnd, length, slice_get, refl, sym, ap, subst, ◌∙◌, ℤ, neg_ℤ, arith, ints, to_z-of_z, All-contains, Contains-append_cases, Contains-append_left, Contains-append_right, Sink, Merge, IsTopology, Joins, numbers_below, sinks_below, first_made, merge_at, merge_here, second_made, number_below, numbers_below-merge, numbers_below-sink, sinks_below-among, Extremes, HasExtremeSides, IsExtremes, IsGreatest, IsLeastOf, IsRegion, u_above, u_below, v_above, v_below, Rect, kept, region_extremes, sides_from_region, w128, HoldsMerge, WorkState, IsEnd, IsSoFar, far_to, furthest_to, u_back, v_back, End}
use Rattle.cts_model.specs.Vocabulary.{AreTreeSinks, IsTreeSink}
use Rattle.std.specs.Prelude.{IsNone, IsSome, FitsSigned}
use Rattle.merge_up.specs.Distances.{IsFar}
use Rattle.merge_up.specs.declared.side.Side.{Side}
use Rattle.merge_up.specs.declared.side.Side.TheVariants as sides

-- ---- how far the furthest sink is

-- the least coordinate is the greatest distance to the other side
back_of_least : (set : List Sink) (far under : Sink → ℤ) (number : ℤ)
    → ((sink : Sink) → far sink ≡ neg_ℤ (under sink))
    → IsLeastOf under set number → IsGreatest far set (neg_ℤ number)
back_of_least set far under number back is = record {
  most = λ sink among. omega (arith, ints, back sink, is.least sink among);
  sink = is.sink;
  among = is.among;
  attained = omega (arith, ints, back is.sink, is.attained);
}

-- the region and the reach of a set say how far its furthest sinks are
pub greatest_to : (side : Side) (set : List Sink) (region : Rect) (reach : ℤ)
    → IsRegion region set reach → IsGreatest (far_to side) set (furthest_to side region reach)
greatest_to side set region reach is =
    let (extremes, are) = region_extremes set region reach is in
    at extremes are (sides_from_region set extremes region reach are is) side
  where
    at : (all : Extremes) → IsExtremes set all → HasExtremeSides region all reach → (side : Side)
        → IsGreatest (far_to side) set (furthest_to side region reach)
    at all are has sides.HighU =
        subst (IsGreatest u_above set) (omega (arith, ints, has.ulo)) are.greatest_u
    at all are has sides.LowU = subst (IsGreatest u_back set) (omega (arith, ints, has.uhi))
        (back_of_least set u_back u_below all.least_u (λ sink. omega (arith, ints)) are.least_u)
    at all are has sides.HighV =
        subst (IsGreatest v_above set) (omega (arith, ints, has.vlo)) are.greatest_v
    at all are has sides.LowV = subst (IsGreatest v_back set) (omega (arith, ints, has.vhi))
        (back_of_least set v_back v_below all.least_v (λ sink. omega (arith, ints)) are.least_v)

-- one place holds one thing
same_some : {X : Type 0} {found : Option X} {one other : X} → found ≡ Some one
    → found ≡ Some other → one ≡ other
same_some {X} {found} {one} {other} is also = ap (λ found. unwrap_or found one) (sym is ∙ also)

module _ (sinks : List Sink) (merges : List Merge) (work : WorkState) (place : ℕ) (region : Rect)
    (reach : ℤ) (side : Side) (held : HoldsMerge sinks merges work place)
    (region_here : slice_get work.regions (length sinks + place) ≡ Some region)
    (reach_here : slice_get work.tree.reach (length sinks + place) ≡ Some reach) where
  -- how far the furthest sink of the merge is
  abbrev IsFurthest : ℤ → Type 0
  IsFurthest = IsGreatest (far_to side) (sinks_below sinks merges (length sinks + place))

  -- so the region and the reach of a merge that is held do
  pub greatest_held : IsFurthest (furthest_to side region reach)
  greatest_held = greatest_to side (sinks_below sinks merges (length sinks + place)) region reach
      (rw (← same_some held.region_held region_here, ← same_some held.reach_held reach_here)
      held.is_region)

  -- and so they do as the code's numbers hold them
  pub greatest_read : (far : ℤ) → FitsSigned w128 reach → FitsSigned w128 far
      → far ≡ furthest_to side region (kept reach) → IsFurthest (kept far)
  greatest_read far reach_fits far_fits is = subst IsFurthest
      (ap (furthest_to side region) (sym (to_z-of_z w128 reach reach_fits))
      ∙ sym is ∙ sym (to_z-of_z w128 far far_fits)) greatest_held

-- no tree sink is further than the code's numbers hold
far_sink : (side : Side) (sink : Sink) → IsTreeSink sink → IsFar (far_to side sink)
far_sink sides.HighU sink is = search (arith, ints, is)
far_sink sides.LowU sink is = search (arith, ints, is)
far_sink sides.HighV sink is = search (arith, ints, is)
far_sink sides.LowV sink is = search (arith, ints, is)

-- ---- the sinks of a node

-- what a list of one item contains is that item
pub only_one : (item other : ℕ) → Contains (item ∷ []) other → other ≡ item
only_one item other (zero, within, same) = sym same
only_one item other (suc place, within, same) = absurd (omega (arith, within))

-- a sink alone is found where it is so far
pub so_far_alone : (sinks : List Sink) (merges : List Merge) (side : Side) (far : ℤ)
    (register : ℕ) (sink : Sink) → register < length sinks
    → slice_get sinks register ≡ Some sink → far_to side sink ≡ far
    → IsSoFar sinks (numbers_below (length sinks) merges register) side far register
so_far_alone sinks merges side far register sink within here is = record {
  among = rw (numbers_below-sink (length sinks) merges register within) (0, omega arith, refl);
  attained = rw here is;
}

-- and nowhere else
pub alone_so_far : (sinks : List Sink) (merges : List Merge) (side : Side) (far : ℤ)
    (register : ℕ) (sink : Sink) → register < length sinks
    → slice_get sinks register ≡ Some sink → (other : ℕ)
    → IsSoFar sinks (numbers_below (length sinks) merges register) side far other
    → far_to side sink ≡ far
alone_so_far sinks merges side far register sink within here other is =
    let among = rw (numbers_below-sink (length sinks) merges register within) at is.among in
    rw (only_one register other among, here) at is.attained

-- both nodes of a merge are joined, whichever comes first
pub order_joins : (merge : Merge) (order : ℕ × ℕ)
    → (order ≡ (merge.first, merge.second)) ⊎ (order ≡ (merge.second, merge.first))
    → Joins merge order.0 × Joins merge order.1
order_joins merge order (inl same) = rw same (inl refl, inr refl)
order_joins merge order (inr same) = rw same (inr refl, inl refl)

-- a node that a merge joins is below it
pub joined_low : (sinks : ℕ) (merges : List Merge) (place : ℕ) (merge : Merge) (node : ℕ)
    → IsTopology sinks merges → slice_get merges place ≡ Some merge → Joins merge node
    → node < sinks + place
joined_low sinks merges place merge node topology here (inl same) =
    omega (arith, same, first_made sinks merges topology.each place merge here)
joined_low sinks merges place merge node topology here (inr same) =
    omega (arith, same, second_made sinks merges topology.each place merge here)

module _ (sinks : ℕ) (merges : List Merge) (topology : IsTopology sinks merges) (place : ℕ)
    (within : place < length merges) (register : ℕ) where
  -- the register is one of a node's sinks
  abbrev Below : ℕ → Type 0
  Below node = Contains (numbers_below sinks merges node) register

  -- a merge's sinks are those of both nodes
  both : numbers_below sinks merges (sinks + place)
      ≡ numbers_below sinks merges (merge_at merges place).first
      ++ numbers_below sinks merges (merge_at merges place).second
  both = numbers_below-merge sinks merges place (merge_at merges place)
      (merge_here merges place within)
      (topology.each place (merge_at merges place) (merge_here merges place within))

  -- what is below one of the two nodes of a merge is below the merge
  pub below_merge : (node : ℕ) → Joins (merge_at merges place) node → Below node
      → Below (sinks + place)
  below_merge node (inl same) is = rw both (Contains-append_left
      (numbers_below sinks merges _) (numbers_below sinks merges _) register (rw same is))
  below_merge node (inr same) is = rw both (Contains-append_right
      (numbers_below sinks merges _) (numbers_below sinks merges _) register (rw same is))

  -- and what is there is below one of the two
  pub below_either : Below (sinks + place)
      → Below (merge_at merges place).first ⊎ Below (merge_at merges place).second
  below_either is = Contains-append_cases (numbers_below sinks merges (merge_at merges place).first)
      (numbers_below sinks merges (merge_at merges place).second) register (rw both at is)

module _ (sinks : List Sink) (merges : List Merge) (topology : IsTopology (length sinks) merges)
    (node : ℕ) (high : length sinks ≤ node) (made : node < length sinks + length merges) where
  -- the place of the merge that makes the node, and the merge
  abbrev place : ℕ
  place = node - length sinks

  abbrev merge : Merge
  merge = merge_at merges place

  -- which is among the merges
  within : place < length merges
  within = omega (arith, high, made)

  -- and makes the node
  at : length sinks + place ≡ node
  at = omega (arith, high)

  -- the two nodes that it joins are below it
  pub lower_than : (lower : ℕ) → Joins merge lower → lower < node
  lower_than lower joins = omega (
    arith,
    high,
    joined_low (length sinks) merges place merge lower
        topology (merge_here merges place within) joins,
  )

  module _ (side : Side) (far : ℤ) (register : ℕ) where
    -- where a sink is that is so far
    abbrev SoFar : ℕ → Type 0
    SoFar node = IsSoFar sinks (numbers_below (length sinks) merges node) side far register

    -- what is found below one of the two nodes is found below the merge
    pub so_far_above : (lower : ℕ) → Joins merge lower → SoFar lower → SoFar node
    so_far_above lower joins is = record {
      among = rw at at (below_merge (length sinks) merges topology place within register lower joins
          is.among);
      attained = is.attained;
    }

    -- and what is found below neither, whichever of the two comes first, is nowhere
    pub below_neither : (order : ℕ × ℕ)
        → (order ≡ (merge.first, merge.second)) ⊎ (order ≡ (merge.second, merge.first))
        → (SoFar order.0 → ⊥) → (SoFar order.1 → ⊥) → SoFar node → ⊥
    below_neither order either none nor is = not either (elim (below_either (length sinks) merges
        topology place within register (rw (← at) at is.among)) [
          | inl low ↦ inl (record { among = low; attained = is.attained })
          | inr low ↦ inr (record { among = low; attained = is.attained })
        ])
      where
        not : (order ≡ (merge.first, merge.second)) ⊎ (order ≡ (merge.second, merge.first))
            → SoFar merge.first ⊎ SoFar merge.second → ⊥
        not (inl same) (inl first) = none (rw same first)
        not (inl same) (inr second) = nor (rw same second)
        not (inr same) (inl first) = nor (rw same first)
        not (inr same) (inr second) = none (rw same second)

-- what isn't wanting is there
pub some_unless : (found : Option ℕ) → (IsNone found → ⊥) → IsSome found
some_unless None none = absurd (none refl)
some_unless (Some register) none = refl

-- what may be found, by another fact of it
pub if_found : {Holds Others : ℕ → Type 0} (found : Option ℕ)
    → ((register : ℕ) → Holds register → Others register) → IfSome found Holds → IfSome found Others
if_found None more is = is
if_found (Some register) more is = more register is

module _ (sinks : List Sink) (merges : List Merge) (node : ℕ) (side : Side) (far : ℤ)
    (is : IsGreatest (far_to side) (sinks_below sinks merges node) far) where
  -- a sink that is as far as the furthest is there
  pub some_so_far : (register : ℕ)
      × IsSoFar sinks (numbers_below (length sinks) merges node) side far register
  some_so_far =
      let (register, below, here) = number_below sinks merges node is.sink is.among in
      (register, record { among = below; attained = rw here is.attained })

  -- and the code's numbers hold how far it is
  pub far_below : AreTreeSinks sinks → IsFar far
  far_below are = subst IsFar is.attained (far_sink side is.sink
      (All-contains IsTreeSink sinks is.sink are.each
      (All-contains (Contains sinks) (sinks_below sinks merges node) is.sink
      (sinks_below-among sinks merges node) is.among)))

  -- so it is the end
  pub end_so_far : (end : End) → end.far ≡ far
      → IsSoFar sinks (numbers_below (length sinks) merges node) side far end.sink
      → IsEnd sinks (numbers_below (length sinks) merges node) (far_to side) end
  end_so_far end same found = record {
    among = found.among;
    attained = subst (λ n. IsSomeAnd (slice_get sinks end.sink) (λ sink. far_to side sink ≡ n))
        (sym same) found.attained;
    furthest = subst (IsGreatest (far_to side) (sinks_below sinks merges node)) (sym same) is;
  }
