-- The one parent of each node of a topology, and sums over all nodes taken merge by merge.
use Rattle.cts_model.proofs.Vocabulary.{◌≡◌, ◌≢◌, ℕ, zero, suc, ◌<◌, ◌≤◌, ◌+◌, ℤ, pos, ◌+ℤ◌, ◌≤ℤ◌, List, [], length, take, get_or, Some, inl, inr, refl, sym, ap, subst, ◌∙◌, arith, IsSomeAnd, slice_get, cases_lt, ints, get_or-take, length-take, slice_get_within, get_or_from_slice_get, Merge, total_length, IsTopology, IsLive, IsMerge, IsParent, Joins, root_of, source_of}
use Rattle.cts_model.proofs.TotalLemmas.{all_zero, all_nothing, all_ones}
use Rattle.cts_model.proofs.TopologyLemmas.{some_and, merge_at, merge_here, EachMerge, first_made, second_made}
use Rattle.cts_model.proofs.WithoutLemmas.{without_both, without_both-joined, without_both-nothing, nothing_without_both, without_both-other, without_both-from_zero, total_length-without_both}

-- the values of the two nodes that a merge joins
abbrev pub both_at : List Merge → (ℕ → ℤ) → ℕ → ℤ
both_at merges value place =
    value (merge_at merges place).first +ℤ value (merge_at merges place).second

-- a node that a merge joins has for its parent what the merge makes
pub made_parent : (sinks : ℕ) (merges : List Merge) (place : ℕ) (merge : Merge)
    → slice_get merges place ≡ Some merge → (node : ℕ) → Joins merge node
    → IsParent sinks merges node (sinks + place)
made_parent sinks merges place merge here node joins = inl (
  place,
  refl,
  subst (λ found. IsSomeAnd found (λ merge. Joins merge node)) (sym here) joins,
)

module _ (sinks : ℕ) (merges : List Merge) (each : EachMerge sinks merges) where
  -- the merge at a place joins two live nodes
  joins_at : (place : ℕ) → place < length merges
      → IsMerge sinks (take place merges) (merge_at merges place)
  joins_at place within = each place (merge_at merges place) (merge_here merges place within)

  -- no earlier merge joins a live node
  other_joined : (earlier place node : ℕ) → IsLive sinks (take place merges) node
      → earlier < place → place < length merges
      → ((merge_at merges earlier).first ≢ node) × ((merge_at merges earlier).second ≢ node)
  other_joined earlier place node live before within =
      subst (λ (merge : Merge). (merge.first ≢ node) × (merge.second ≢ node))
      (get_or-take place merges earlier (merge_at [] 0) before)
      (live.unjoined earlier (merge_at [] 0) (omega (arith, length-take place merges)))

  module _ (value : ℕ → ℤ) where
    -- the values without those of the nodes that the first merges join
    abbrev left : (count : ℕ) → ℕ → ℤ
    left zero = value
    left (suc count) = without_both (left count) (merge_at merges count)

    -- a live node keeps its value
    left_live : (count place node : ℕ) → IsLive sinks (take place merges) node → count ≤ place
        → place < length merges → left count node ≡ value node
    left_live zero place node live low within = refl
    left_live (suc count) place node live low within =
        without_both-other (left count) (merge_at merges count) node
        (other_joined count place node live (omega arith) within)
        ∙ left_live count place node live (omega arith) within

    -- what is left and what merges join is all
    left_and_joined : (count : ℕ) → count ≤ length merges → (bound : ℕ)
        → sinks + count ≤ bound + 1
        → total_length (left count) bound +ℤ total_length (both_at merges value) count
        ≡ total_length value bound
    left_and_joined zero some bound low = omega (arith, ints)
    left_and_joined (suc count) some bound low =
        let merge : Merge = merge_at merges count in
        let joins = joins_at count (omega arith) in
        let first = left_live count count merge.first joins.first (omega arith) (omega arith) in
        let second = left_live count count merge.second joins.second (omega arith)
        (omega arith) in
        let within : merge.second < bound = omega (
          arith,
          joins.second.made,
          length-take count merges,
        ) in
        let missing = total_length-without_both (left count) merge bound joins.ordered within in
        let rest = left_and_joined count (omega arith) bound (omega arith) in
        omega (arith, ints)

    -- what is left of values from 0 on are values from 0 on
    left_from_zero : ((node : ℕ) → pos 0 ≤ℤ value node) → (count node : ℕ)
        → pos 0 ≤ℤ left count node
    left_from_zero from_zero zero node = from_zero node
    left_from_zero from_zero (suc count) node = without_both-from_zero (left count)
        (merge_at merges count) node (left_from_zero from_zero count node)

    -- what is joined isn't left
    left_joined : (count node place : ℕ) → place < count → Joins (merge_at merges place) node
        → left count node ≡ pos 0
    left_joined zero node place low joins = absurd (omega arith)
    left_joined (suc count) node place low joins = elim (cases_lt place count) [
      | inl earlier ↦ without_both-nothing (left count) (merge_at merges count) node
          (left_joined count node place earlier joins)
      | inr later ↦
          let last : place ≡ count = omega arith in
          without_both-joined (left count) (merge_at merges count) node
          (subst (λ at. Joins (merge_at merges at) node) last joins)
    ]

    -- and what isn't left, where all count something, is joined
    joined_by_some : (count node : ℕ) → (value node ≡ pos 0 → ⊥) → left count node ≡ pos 0
        → (place : ℕ) × (place < count) × Joins (merge_at merges place) node
    joined_by_some zero node some gone = absurd (some gone)
    joined_by_some (suc count) node some gone =
        elim (nothing_without_both (left count) (merge_at merges count) node gone) [
          | inl joins ↦ (count, omega arith, joins)
          | inr before ↦
              let (place, low, joins) = joined_by_some count node some before in
              (place, omega arith, joins)
        ]

module _ {sinks : ℕ} {merges : List Merge} (topology : IsTopology sinks merges) where
  -- each node below the root is joined by a merge
  joined : (node : ℕ) → node < root_of sinks
      → (place : ℕ) × (place < length merges) × Joins (merge_at merges place) node
  joined node low =
      let one = λ (node : ℕ). pos 1 in
      let count = length merges in
      let all : sinks ≡ length merges + 1 = topology.all in
      let sums = left_and_joined sinks merges topology.each one count (omega arith)
      (root_of sinks) (omega arith) in
      let twos = all_ones (both_at merges one) 2 count (λ place. refl) in
      let ones = all_ones one 1 (root_of sinks) (λ place. refl) in
      let none_left : total_length (left sinks merges topology.each one count) (root_of sinks)
      ≡ pos 0 = omega (arith, ints) in
      joined_by_some sinks merges topology.each one count node (λ is. omega (arith, ints))
      (all_zero (left sinks merges topology.each one count) (root_of sinks)
      (left_from_zero sinks merges topology.each one (λ node. omega (arith, ints)) count)
      none_left node low)

  -- so a sum over all nodes below the root is one over the merges
  pub total_by_merges : (value : ℕ → ℤ) → total_length value (root_of sinks)
      ≡ total_length (both_at merges value) (length merges)
  total_by_merges value =
      let count = length merges in
      let all : sinks ≡ length merges + 1 = topology.all in
      let sums = left_and_joined sinks merges topology.each value count (omega arith)
      (root_of sinks) (omega arith) in
      let none_left = all_nothing (left sinks merges topology.each value count) (root_of sinks)
      (λ node low. let (place, within, joins) = joined node low in
      left_joined sinks merges topology.each value count node place within joins) in
      omega (arith, ints)

  -- each node but the source has a parent
  pub has_parent : (node : ℕ) → node < source_of sinks
      → (parent : ℕ) × IsParent sinks merges node parent
  has_parent node low = elim (cases_lt node (root_of sinks)) [
    | inl below ↦
        let (place, within, joins) = joined node below in (
          sinks + place,
          made_parent sinks merges place (merge_at merges place)
              (merge_here merges place within) node joins,
        )
    | inr above ↦ (source_of sinks, inr (omega (arith, topology.all), refl))
  ]

  -- which is above it
  pub parent_above : (node parent : ℕ) → IsParent sinks merges node parent → node < parent
  parent_above node parent (inl (place, is, found)) =
      let (merge, here, joins) = some_and (slice_get merges place)
      (λ merge. Joins merge node) found in
      let first = first_made sinks merges topology.each place merge here in
      let second = second_made sinks merges topology.each place merge here in
      elim joins [
        | inl same ↦ omega arith
        | inr same ↦ omega arith
      ]
  parent_above node parent (inr (is_root, is)) = omega (arith, topology.all)

  -- and the source or below it
  pub parent_stands : (node parent : ℕ) → IsParent sinks merges node parent
      → parent ≤ source_of sinks
  parent_stands node parent (inl (place, is, found)) =
      let (merge, here, joins) = some_and (slice_get merges place)
      (λ merge. Joins merge node) found in
      omega (arith, topology.all, slice_get_within merges place merge here)
  parent_stands node parent (inr (is_root, is)) = omega arith

  -- two merges don't join the same node
  joined_twice : (earlier later node : ℕ) → earlier < later → later < length merges
      → Joins (merge_at merges earlier) node → Joins (merge_at merges later) node → ⊥
  joined_twice earlier later node before within joins also =
      let merge : Merge = merge_at merges later in
      let is = joins_at sinks merges topology.each later within in
      let first = other_joined sinks merges topology.each earlier later merge.first is.first
      before within in
      let second = other_joined sinks merges topology.each earlier later merge.second is.second
      before within in
      elim also [
        | inl same ↦ elim joins [
          | inl was ↦ first.0 (was ∙ sym same)
          | inr was ↦ first.1 (was ∙ sym same)
        ]
        | inr same ↦ elim joins [
          | inl was ↦ second.0 (was ∙ sym same)
          | inr was ↦ second.1 (was ∙ sym same)
        ]
      ]

  -- so the merge that joins a node is one
  joined_once : (place other node : ℕ) → place < length merges → other < length merges
      → Joins (merge_at merges place) node → Joins (merge_at merges other) node → place ≡ other
  joined_once place other node within also_within joins also = elim (cases_lt place other) [
    | inl before ↦ absurd (joined_twice place other node before also_within joins also)
    | inr not_before ↦ elim (cases_lt other place) [
      | inl suffix ↦ absurd (joined_twice other place node suffix within also joins)
      | inr not_after ↦ omega arith
    ]
  ]

  -- what the merge of a parent joins
  pub joined_by : (node place : ℕ) (merge : Merge) → slice_get merges place ≡ Some merge
      → IsParent sinks merges node (sinks + place) → Joins merge node
  joined_by node place merge here (inl (other, is, found)) =
      let same : place ≡ other = omega arith in
      let (item, there, joins) = some_and (slice_get merges other)
      (λ merge. Joins merge node) found in
      subst (λ m. Joins m node) (sym (get_or_from_slice_get merges other item merge there)
      ∙ ap (λ n. get_or merges n merge) (sym same)
      ∙ get_or_from_slice_get merges place merge merge here) joins
  joined_by node place merge here (inr (is_root, is)) =
      absurd (omega (arith, topology.all, slice_get_within merges place merge here))

  -- the merge of a parent by its place
  joins_at_place : (node place : ℕ) → IsSomeAnd (slice_get merges place) (λ merge. Joins merge node)
      → (place < length merges) × Joins (merge_at merges place) node
  joins_at_place node place found =
      let (merge, here, joins) = some_and (slice_get merges place)
      (λ merge. Joins merge node) found in (
        slice_get_within merges place merge here,
        subst (λ other. Joins other node)
            (sym (get_or_from_slice_get merges place merge (merge_at [] 0) here)) joins,
      )

  -- the root is joined by none
  root_unjoined : (node place : ℕ) → node ≡ root_of sinks
      → IsSomeAnd (slice_get merges place) (λ merge. Joins merge node) → ⊥
  root_unjoined node place is_root found =
      let above = parent_above node (sinks + place) (inl (place, refl, found)) in
      let (within, joins) = joins_at_place node place found in
      omega (arith, topology.all)

  -- and the parent is one
  pub one_parent : (node parent other : ℕ) → IsParent sinks merges node parent
      → IsParent sinks merges node other → parent ≡ other
  one_parent node parent other (inl (place, is, found)) (inl (also, also_is, also_found)) =
      let (within, joins) = joins_at_place node place found in
      let (also_within, also_joins) = joins_at_place node also also_found in
      let same = joined_once place also node within also_within joins also_joins in
      omega arith
  one_parent node parent other (inl (place, is, found)) (inr (is_root, also_is)) =
      absurd (root_unjoined node place is_root found)
  one_parent node parent other (inr (is_root, is)) (inl (also, also_is, also_found)) =
      absurd (root_unjoined node also is_root also_found)
  one_parent node parent other (inr (is_root, is)) (inr (also_root, also_is)) = omega arith
