-- The nodes that have their places, one merge after the other.
use Rattle.place_down.proofs.Vocabulary.{◌≡◌, ◌≢◌, ℕ, ◌+◌, ◌*◌, ◌^◌, ◌<◌, ◌≤◌, inl, inr, true, false, ℤ, pos, ◌-ℤ◌, ◌≤ℤ◌, List, Some, length, slice_get, refl, sym, ap, subst, ◌∙◌, arith, cases_lt, get_or-set_same, get_or-set_other, slice_get_within, get_or_from_slice_get, Point, Sink, Uv, Merge, embedding_of, IsBelow, IsMultipleOf, IsUvBelow, IsUvMultipleOf, rotated, rotated_distance, InRegion, AreTreeSinks, IsTopology, IsParent, Joins, sinks_below, source_of, made_parent, has_parent, joined_by, parent_above, parent_stands, one_parent, distance-rotated, merge_at, merge_here, IsMerged, IsNodeSettled, placed_as, WorkState, IsFit, merge_along, node_of, sink_along, CanSettle, IsSettledBelow, IsStanding, StandFrom, StandsBelow, StaysAbove, standing, StaysMerged, merged_as, reach_in}
use Rattle.place_down.proofs.RegionBounds.{below_more, point_below_more, holds_node, chosen_near, region_of_joined, reach_of_node, place_of_node}

-- the point of a node that has none yet
abbrev pub origin : Point
origin = record { x = pos 0; y = pos 0 }

-- where a node stands
abbrev pub point_of : WorkState → ℕ → Point
point_of work node = (embedding_of work.tree).place node

-- ---- what stays

-- what was merged is so still
pub merged_kept : {sinks : List Sink} {merges : List Merge} {old new : WorkState}
    → IsTopology (length sinks) merges → StaysMerged old new → IsMerged sinks merges old
    → IsMerged sinks merges new
merged_kept {sinks} {merges} {old} {new} topology stays merged = record {
  count = ap (λ work. work.sinks) stays.rest ∙ merged.count;
  of_sinks = λ register sink here. sink_along (node_kept register (omega
      (arith, merged.count, slice_get_within sinks register sink here)))
      (merged.of_sinks register sink here);
  of_merges = λ place within. merge_along
      (node_kept (length sinks + place) (omega (arith, merged.count, within, topology.all)))
      (stays.shows place (omega (arith, merged.count, within, topology.all)))
      (merged.of_merges place within);
}
  where
    node_kept : (node : ℕ) → node < source_of old.sinks → node_of new node ≡ node_of old node
    node_kept node below = λ i. (
      stays.reaches node below i,
      (ap (λ work. slice_get work.regions node) stays.rest) i,
    )

-- nothing above changes in two steps where it doesn't in each
pub above_twice : {old mid new : WorkState} → StaysAbove old mid → StaysAbove mid new
    → StaysAbove old new
above_twice {old} {mid} {new} first second = record {
  rest = second.rest ∙ ap (placed_as new.tree.place new.tree.length new.settled) first.rest;
  source = subst (λ n. standing new (source_of n) ≡ standing mid (source_of n))
      (ap (λ work. work.sinks) first.rest) second.source ∙ first.source;
}

-- places of nodes leave what was merged
pub stays_below : {old mid new : WorkState} → StaysMerged old mid → StaysAbove mid new
    → StaysMerged old new
stays_below {old} {mid} {new} first second = record {
  rest = ap (merged_as new.tree new.shows new.settled) second.rest
      ∙ ap (merged_as new.tree new.shows new.settled) first.rest;
  reaches = λ node below. ap (λ work. slice_get work.tree.reach node) second.rest
      ∙ first.reaches node below;
  shows = λ place below. ap (λ work. slice_get work.shows place) second.rest
      ∙ first.shows place below;
}

-- so nothing is lost of what was merged
pub merged_still : {sinks : List Sink} {merges : List Merge} {old new : WorkState}
    → IsTopology (length sinks) merges → StaysAbove old new → IsMerged sinks merges old
    → IsMerged sinks merges new
merged_still topology stays = merged_kept topology (stays_below (record {
  rest = refl;
  reaches = λ node below. refl;
  shows = λ place below. refl;
}) stays)

-- ---- one node placed

module _ {node : ℕ} {at : Uv} {long : ℤ} {old new : WorkState}
    (placed : IsNodeSettled node at long old new) where
  -- it stands there, its edge has that length, and it is settled
  placed_here : node < length old.tree.place → node < length old.tree.length
      → node < length old.settled → standing new node ≡ (placed.point, long, true)
  placed_here places lengths settled = ap (λ work. standing work node) placed.rest ∙ (λ i. (
    get_or-set_same old.tree.place node placed.point origin places i,
    get_or-set_same old.tree.length node long (pos 0) lengths i,
    get_or-set_same old.settled node true false settled i,
  ))

  -- any other stands as it did
  placed_other : (other : ℕ) → other ≢ node → standing new other ≡ standing old other
  placed_other other apart = ap (λ work. standing work other) placed.rest ∙ (λ i. (
    get_or-set_other old.tree.place node other placed.point origin apart i,
    get_or-set_other old.tree.length node other long (pos 0) apart i,
    get_or-set_other old.settled node other true false apart i,
  ))

  -- and reaches stay
  placed_reach : (other : ℕ) → reach_in new.tree other ≡ reach_in old.tree other
  placed_reach other = ap (λ work. reach_in work.tree other) placed.rest

  -- so nothing changes above
  pub placed_above : node < source_of old.sinks → StaysAbove old new
  placed_above below = record {
    rest = ap (placed_as new.tree.place new.tree.length new.settled) placed.rest;
    source = placed_other (source_of old.sinks) (λ same. omega (arith, below, same));
  }

  -- a node that stands below its parent does so still, where it is neither of both
  stands_still : {set : List Sink} (other parent : ℕ)
      → IsStanding set (reach_in old.tree other) (reach_in old.tree parent) (point_of old parent)
      (standing old other) → other ≢ node → parent ≢ node
      → IsStanding set (reach_in new.tree other) (reach_in new.tree parent) (point_of new parent)
      (standing new other)
  stands_still other parent stands apart above = rw (
    placed_reach other,
    placed_reach parent,
    ap (λ at. at.0) (placed_other parent above),
    placed_other other apart,
  ) stands

-- ---- one node settled below its parent

module _ {sinks : List Sink} {merges : List Merge} (are : AreTreeSinks sinks)
    (topology : IsTopology (length sinks) merges) where
  -- what a node needs whose children get their places: where it stands, and its reach
  pub record IsReady (work : WorkState) (parent : ℕ) (reach : ℤ) (at : Uv) : Type 0 where
    pub fit : IsFit work
    pub merged : IsMerged sinks merges work
    pub reach_is : reach_in work.tree parent ≡ reach
    pub stands : rotated (point_of work parent) ≡ at
    pub small : IsBelow (10 ^ 32) reach
    pub below : IsUvBelow (10 ^ 32) at
    pub multiple : IsUvMultipleOf 4 at
    pub within : (node : ℕ) → IsParent (length sinks) merges node parent
        → InRegion (sinks_below sinks merges node) 1 reach at

  -- a child is below the source
  child_low : {node parent : ℕ} → IsParent (length sinks) merges node parent
      → node < source_of (length sinks)
  child_low {node} {parent} child = omega
      (arith, parent_above topology node parent child, parent_stands topology node parent child)

  -- the reach of a node that is held is small
  pub held_small : (work : WorkState) → IsMerged sinks merges work → (node : ℕ)
      → node < source_of (length sinks)
      → IsBelow (2 * 10 ^ 31) (reach_in work.tree node) × IsMultipleOf 4 (reach_in work.tree node)
  held_small work merged node below = reach_of_node are topology node (reach_in work.tree node)
      (holds_node are topology work merged node below).is_reach

  module _ {work : WorkState} {parent : ℕ} {reach : ℤ} {at : Uv} (is : IsReady work parent reach at)
      {node : ℕ} (child : IsParent (length sinks) merges node parent) where
    -- so the children of a node that is ready may be settled
    pub can_settle : CanSettle node reach at work
    can_settle = record {
      stands = omega (arith, child_low child, is.merged.count);
      own = below_more (omega arith) (held_small work is.merged node (child_low child)).0;
      wide = is.small;
      below = is.below;
      multiple = is.multiple;
    }

    module _ {new : WorkState} (settled : IsSettledBelow node reach at work new) where
      -- then nothing changes above
      pub child_above : StaysAbove work new
      child_above = placed_above settled.placed (omega (arith, child_low child, is.merged.count))

      -- the child isn't the node
      apart : parent ≢ node
      apart same = omega (arith, same, parent_above topology node parent child)

      -- the node is ready still
      pub ready_still : IsReady new parent reach at
      ready_still = record {
        fit = settled.placed.fit;
        merged = merged_still topology child_above is.merged;
        reach_is = placed_reach settled.placed parent ∙ is.reach_is;
        stands = ap (λ at. rotated at.0) (placed_other settled.placed parent apart) ∙ is.stands;
        small = is.small;
        below = is.below;
        multiple = is.multiple;
        within = is.within;
      }

      -- and the child stands at its chosen place, with an edge that is long enough
      pub child_stands : StandsBelow sinks merges new node parent
      child_stands =
          let low = child_low child in
          let held = holds_node are topology work is.merged node low in
          let own = reach_in work.tree node in
          let region_is : settled.region ≡ held.region = sym (get_or_from_slice_get work.regions
          node settled.region settled.region settled.region_held) ∙ get_or_from_slice_get
          work.regions node held.region settled.region held.region_held in
          let found = settled.placed.stands in
          let chosen = chosen_near (sinks_below sinks merges node) held.region own reach at
          (rotated settled.placed.point) held.is_reach held.is_region (is.within node child)
          (rw (← region_is, found) settled.nearest) in
          let fit = is.fit in
          let count = is.merged.count in
          rw (
            placed_reach settled.placed node,
            placed_reach settled.placed parent,
            is.reach_is,
            ap (λ at. at.0) (placed_other settled.placed parent apart),
            placed_here settled.placed (omega (arith, fit, count, low)) (omega
                (arith, fit, count, low)) (omega (arith, fit, count, low)),
          ) (record {
            chosen = rw is.stands chosen.0;
            multiple = rw found settled.multiple;
            length = refl;
            near = subst (λ far. far ≤ℤ (reach -ℤ own)) (sym (distance-rotated
                (point_of work parent) settled.placed.point ∙ ap (λ z. rotated_distance z
                (rotated settled.placed.point)) is.stands)) chosen.1;
            settled = refl;
          })

  -- a merge that stands is ready
  pub ready : {work : WorkState} (place : ℕ) (reach : ℤ) (point : Point) → place < length merges
      → StandFrom sinks merges (place + 1) work
      → slice_get work.tree.reach (length sinks + place) ≡ Some reach
      → slice_get work.tree.place (length sinks + place) ≡ Some point
      → IsReady work (length sinks + place) reach (rotated point)
  ready {work} place reach point within stand reach_held point_held =
      let node = length sinks + place in
      let below : node < source_of (length sinks) = omega (arith, topology.all) in
      let above = has_parent topology node below in
      let higher = parent_above topology node above.0 above.1 in
      let stands = stand.each node above.0 above.1 (omega (arith, higher)) in
      let reach_is = get_or_from_slice_get work.tree.reach node reach (pos 0) reach_held in
      let point_is = get_or_from_slice_get work.tree.place node point origin point_held in
      let is_reach = rw reach_is at (holds_node are topology work stand.merged node below).is_reach
      in
      let region = rw (reach_is, point_is) at stands.chosen.within in
      record {
        fit = stand.fit;
        merged = stand.merged;
        reach_is = reach_is;
        stands = ap rotated point_is;
        small = below_more (omega arith) (reach_of_node are topology node reach is_reach).0;
        below = point_below_more (omega arith)
            (place_of_node are topology node reach (rotated point) below is_reach region);
        multiple = rw point_is at stands.multiple;
        within = λ child parent. region_of_joined are topology place _ child reach (rotated point)
            (merge_here merges place within)
            (joined_by topology child place _ (merge_here merges place within) parent) region;
      }

  -- ---- the two nodes of a merge

  module _ {old mid new : WorkState} {reach : ℤ} {at : Uv} (place : ℕ)
      (within : place < length merges) (stand : StandFrom sinks merges (place + 1) old)
      (is : IsReady old (length sinks + place) reach at)
      (first : IsSettledBelow (merge_at merges place).first reach at old mid)
      (second : IsSettledBelow (merge_at merges place).second reach at mid new) where
    -- both are children of the merge
    child : (node : ℕ) → Joins (merge_at merges place) node
        → IsParent (length sinks) merges node (length sinks + place)
    child = made_parent (length sinks) merges place (merge_at merges place)
        (merge_here merges place within)

    -- and below it
    low : (node : ℕ) → Joins (merge_at merges place) node → node < length sinks + place
    low node joins = parent_above topology node (length sinks + place) (child node joins)

    -- so the second stands, and the first does so still
    second_stands : StandsBelow sinks merges new (merge_at merges place).second
        (length sinks + place)
    second_stands = child_stands (ready_still is (child _ (inl refl)) first) (child _ (inr refl))
        second

    first_stands : StandsBelow sinks merges new (merge_at merges place).first
        (length sinks + place)
    first_stands = stands_still second.placed (merge_at merges place).first (length sinks + place)
        (child_stands is (child _ (inl refl)) first)
        (λ same. omega (
          arith,
          same,
          (topology.each place _ (merge_here merges place within)).ordered,
        ))
        (λ same. omega (arith, same, low _ (inr refl)))

    -- a node below a higher parent is none of the two
    other_stands : (node parent : ℕ) → IsParent (length sinks) merges node parent
        → length sinks + place < parent → StandsBelow sinks merges new node parent
    other_stands node parent below higher =
        let none : Joins (merge_at merges place) node → ⊥ = λ joins. omega (
          arith,
          higher,
          one_parent topology node parent (length sinks + place) below (child node joins),
        ) in
        stands_still second.placed node parent
        (stands_still first.placed node parent
        (stand.each node parent below (omega (arith, higher)))
        (λ same. none (inl (sym same))) (λ same. omega (arith, same, higher, low _ (inl refl))))
        (λ same. none (inr (sym same))) (λ same. omega (arith, same, higher, low _ (inr refl)))

    -- so the nodes stand whose parents come from this merge on
    each_stands : (node parent : ℕ) → IsParent (length sinks) merges node parent
        → length sinks + place ≤ parent → StandsBelow sinks merges new node parent
    each_stands node parent below at_least = elim (cases_lt (length sinks + place) parent) [
      | inl higher ↦ other_stands node parent below higher
      | inr not_higher ↦
          let same : parent ≡ length sinks + place = omega (arith, at_least, not_higher) in
          rw same (elim (joined_by topology node place _ (merge_here merges place within)
          (rw same at below)) [
            | inl is_first ↦ subst (λ node. StandsBelow sinks merges new node
                (length sinks + place)) is_first first_stands
            | inr is_second ↦ subst (λ node. StandsBelow sinks merges new node
                (length sinks + place)) is_second second_stands
          ])
    ]

    -- nothing above the two changes
    pub joined_above : StaysAbove old new
    joined_above = above_twice (child_above is (child _ (inl refl)) first)
        (child_above (ready_still is (child _ (inl refl)) first) (child _ (inr refl)) second)

    -- and one more merge has its two nodes placed
    pub joined_stand : StandFrom sinks merges place new
    joined_stand = record {
      fit = second.placed.fit;
      merged = merged_still topology joined_above stand.merged;
      each = each_stands;
    }
