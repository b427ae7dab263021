-- The climb from a sink to a node.
use Rattle.cert_check.proofs.Vocabulary.{◌≡◌, ◌↔◌, ◌<◌, ◌≤◌, ◌+◌, ◌-◌, ◌*◌, ℕ, zero, suc, List, [], ◌∷◌, ◌++◌, length, Some, inl, inr, refl, sym, subst, arith, slice_get, cases_lt, Contains-append_cases, Contains-append_left, Contains-append_right, Merge, IsParent, IsTopology, Joins, numbers_below, made_parent, one_parent, parent_above, merge_at, merge_here, numbers_below-merge, numbers_below-sink, some_and}
use Rattle.std.specs.List.{Contains}

-- a list of one item has no other
only_item : (only item : ℕ) → Contains (only ∷ []) item → item ≡ only
only_item only item (zero, within, same) = sym same
only_item only item (suc place, within, same) = absurd (omega arith)

module _ {sinks : ℕ} {merges : List Merge} (topology : IsTopology sinks merges)
    (register : ℕ) where
  -- the sink is at or below the node
  abbrev pub Below : ℕ → Type 0
  Below node = Contains (numbers_below sinks merges node) register

  -- below a sink is that sink
  below_sink : (node : ℕ) → node < sinks → Below node → register ≡ node
  below_sink node low below = search (arith, only_item, numbers_below-sink)

  -- below what a merge makes are the sinks of the two that it joins
  below_both : (place : ℕ) (merge : Merge) → slice_get merges place ≡ Some merge
      → numbers_below sinks merges (sinks + place)
      ≡ numbers_below sinks merges merge.first ++ numbers_below sinks merges merge.second
  below_both place merge here =
      numbers_below-merge sinks merges place merge here (topology.each place merge here)

  below_merge : (place : ℕ) (merge : Merge) → slice_get merges place ≡ Some merge → (node : ℕ)
      → Joins merge node → Below node → Below (sinks + place)
  below_merge place merge here node joins below =
      subst (λ numbers. Contains numbers register) (sym (below_both place merge here))
      (elim joins [
        | inl same ↦ Contains-append_left (numbers_below sinks merges merge.first)
            (numbers_below sinks merges merge.second) register (subst Below (sym same) below)
        | inr same ↦ Contains-append_right (numbers_below sinks merges merge.first)
            (numbers_below sinks merges merge.second) register (subst Below (sym same) below)
      ])

  -- where the sink is below a node and below what that joins, the other's parent is no higher
  by_child : (at child node parent : ℕ) → IsParent sinks merges child node
      → IsParent sinks merges at parent → at < node → (at < child → parent ≤ child)
      → (child < at → node ≤ at) → parent ≤ node
  by_child at child node parent joined is before over under = elim (cases_lt at child) [
    | inl low ↦
        let up = over low in
        let above = parent_above topology child node joined in
        omega arith
    | inr past ↦ elim (cases_lt child at) [
      | inl low ↦ let up = under low in absurd (omega arith)
      | inr also_past ↦
          let same : child ≡ at = omega arith in
          let one = one_parent topology at parent node is
          (subst (λ child. IsParent sinks merges child node) same joined) in
          omega arith
    ]
  ]

  -- of two nodes with the sink below them the lower one's parent is no higher than the other
  no_higher : (rest at node parent : ℕ) → node < rest → node < sinks + length merges → at < node
      → IsParent sinks merges at parent → Below at → Below node → parent ≤ node
  no_higher zero at node parent few made before is here there = absurd (omega arith)
  no_higher (suc rest) at node parent few made before is here there =
      elim (cases_lt node sinks) [
        | inl low ↦
            let one = below_sink node low there in
            let other = below_sink at (omega arith) here in
            absurd (omega arith)
        | inr past ↦
            let made_by : sinks + (node - sinks) ≡ node = omega arith in
            let merge : Merge = merge_at merges (node - sinks) in
            let found = merge_here merges (node - sinks) (omega arith) in
            let both = subst (λ numbers. Contains numbers register)
            (below_both (node - sinks) merge found) (subst Below (sym made_by) there) in
            let first = subst (IsParent sinks merges merge.first) made_by
            (made_parent sinks merges (node - sinks) merge found merge.first (inl refl)) in
            let second = subst (IsParent sinks merges merge.second) made_by
            (made_parent sinks merges (node - sinks) merge found merge.second (inr refl)) in
            let low = parent_above topology merge.first node first in
            let also_low = parent_above topology merge.second node second in
            elim (Contains-append_cases (numbers_below sinks merges merge.first)
            (numbers_below sinks merges merge.second) register both) [
              | inl in_first ↦ by_child at merge.first node parent first is before
                  (λ up. no_higher rest at merge.first parent (omega arith) (omega arith) up is
                  here in_first)
                  (λ under. no_higher rest merge.first at node (omega arith) (omega arith) under
                  first in_first here)
              | inr in_second ↦ by_child at merge.second node parent second is before
                  (λ up. no_higher rest at merge.second parent (omega arith) (omega arith) up is
                  here in_second)
                  (λ under. no_higher rest merge.second at node (omega arith) (omega arith) under
                  second in_second here)
            ]
      ]

  -- the sink is below where the climb stands, which isn't past the node if that has it below it
  pub record IsClimb (node at : ℕ) : Type 0 where
    pub below : Below at
    pub first : Below node → at ≤ node

  -- it begins at the sink
  pub climb_start : (node : ℕ) → register < sinks → IsClimb node register
  climb_start node low = record {
    below = subst (λ numbers. Contains numbers register)
        (sym (numbers_below-sink sinks merges register low)) (zero, omega arith, refl);
    first = λ below. elim (cases_lt node register) [
      | inl under ↦
          let same = below_sink node (omega arith) below in
          omega arith
      | inr past ↦ omega arith
    ];
  }

  -- one edge up
  pub climb_next : (node at parent : ℕ) → node + 1 < 2 * sinks → at < node
      → IsParent sinks merges at parent → IsClimb node at → IsClimb node parent
  climb_next node at parent low before (inl (place, is, found)) climb =
      let (merge, here, joins) = some_and (slice_get merges place)
      (λ merge. Joins merge at) found in
      record {
        below = subst Below (sym is) (below_merge place merge here at joins climb.below);
        first = λ below. no_higher (node + 1) at node parent (omega arith)
            (omega (arith, topology.all)) before (inl (place, is, found)) climb.below below;
      }
  climb_next node at parent low before (inr (is_root, is)) climb = absurd (omega arith)

  -- and where it ends at the node, that has the sink below it
  pub climb_end : (node at : ℕ) → node ≤ at → IsClimb node at → (at ≡ node) ↔ Below node
  climb_end node at past climb = (
    λ same. subst Below same climb.below,
    λ below. let low = climb.first below in omega arith,
  )
