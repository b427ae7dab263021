-- The values of nodes without those of the two that a merge joins, and the sums that are left.
use Rattle.cts_model.proofs.Vocabulary.{◌≡◌, ◌≢◌, ◌⊎◌, ℕ, zero, suc, ◌<◌, ◌≤◌, ℤ, pos, ◌+ℤ◌, ◌≤ℤ◌, Bool, true, false, cond, inl, inr, refl, ap, ◌∙◌, arith, cases_lt, nat_tests, ints, Merge, total_length, Joins}
use Rattle.std.proofs.Common.{◌==◌}

-- the values without that of one node
abbrev without : (ℕ → ℤ) → ℕ → ℕ → ℤ
without value node other = cond (other == node) (pos 0) (value other)

-- nothing is there at the node that is left out
without-itself : (value : ℕ → ℤ) (node other : ℕ) → node ≡ other
    → without value node other ≡ pos 0
without-itself value node other same = grind (arith, nat_tests)

-- and nothing where nothing was
without-nothing : (value : ℕ → ℤ) (node other : ℕ) → value other ≡ pos 0
    → without value node other ≡ pos 0
without-nothing value node other nothing = at (other == node)
  where
    at : (same : Bool) → cond same (pos 0) (value other) ≡ pos 0
    at true = refl
    at false = nothing

-- where nothing is, nothing was, or it is left out
nothing_without : (value : ℕ → ℤ) (node other : ℕ) → without value node other ≡ pos 0
    → (node ≡ other) ⊎ (value other ≡ pos 0)
nothing_without value node other nothing = at (other == node) refl nothing
  where
    at : (same : Bool) → (other == node) ≡ same → cond same (pos 0) (value other) ≡ pos 0
        → (node ≡ other) ⊎ (value other ≡ pos 0)
    at true is nothing = let same : node ≡ other = grind (arith, nat_tests) in inl same
    at false is nothing = inr nothing

-- values from 0 on stay so
without-from_zero : (value : ℕ → ℤ) (node other : ℕ) → pos 0 ≤ℤ value other
    → pos 0 ≤ℤ without value node other
without-from_zero value node other from_zero = at (other == node)
  where
    at : (same : Bool) → pos 0 ≤ℤ cond same (pos 0) (value other)
    at true = omega (arith, ints)
    at false = from_zero

-- a sum of nodes before the one that is left out
total_length-before : (value : ℕ → ℤ) (node bound : ℕ) → bound ≤ node
    → total_length (without value node) bound ≡ total_length value bound
total_length-before value node zero before = refl
total_length-before value node (suc bound) before =
    let kept : without value node bound ≡ value bound = grind (arith, nat_tests) in
    let rest = total_length-before value node bound (omega arith) in
    ap (λ z. z +ℤ without value node bound) rest ∙ ap (λ z. total_length value bound +ℤ z) kept

-- a node that is left out is missing in the sum once
total_length-without : (value : ℕ → ℤ) (node bound : ℕ) → node < bound
    → total_length (without value node) bound +ℤ value node ≡ total_length value bound
total_length-without value node zero within = absurd (omega arith)
total_length-without value node (suc bound) within = elim (cases_lt node bound) [
  | inl before ↦
      let kept : without value node bound ≡ value bound = grind (arith, nat_tests) in
      let rest = total_length-without value node bound before in
      omega (arith, ints)
  | inr last ↦
      let same : bound ≡ node = omega arith in
      let gone : without value node bound ≡ pos 0 = grind (arith, nat_tests) in
      let value_same : value bound ≡ value node = ap value same in
      let rest = total_length-before value node bound last in
      omega (arith, ints)
]

-- the values without those of the two nodes that a merge joins
abbrev pub without_both : (ℕ → ℤ) → Merge → ℕ → ℤ
without_both value merge = without (without value merge.first) merge.second

-- nothing is there at the nodes that it joins
pub without_both-joined : (value : ℕ → ℤ) (merge : Merge) (node : ℕ) → Joins merge node
    → without_both value merge node ≡ pos 0
without_both-joined value merge node (inl first) =
    without-nothing (without value merge.first) merge.second node
    (without-itself value merge.first node first)
without_both-joined value merge node (inr second) =
    without-itself (without value merge.first) merge.second node second

-- and nothing where nothing was
pub without_both-nothing : (value : ℕ → ℤ) (merge : Merge) (node : ℕ) → value node ≡ pos 0
    → without_both value merge node ≡ pos 0
without_both-nothing value merge node nothing =
    without-nothing (without value merge.first) merge.second node
    (without-nothing value merge.first node nothing)

-- where nothing is, nothing was, or the merge joins the node
pub nothing_without_both : (value : ℕ → ℤ) (merge : Merge) (node : ℕ)
    → without_both value merge node ≡ pos 0 → Joins merge node ⊎ (value node ≡ pos 0)
nothing_without_both value merge node nothing =
    elim (nothing_without (without value merge.first) merge.second node nothing) [
      | inl second ↦ inl (inr second)
      | inr earlier ↦ elim (nothing_without value merge.first node earlier) [
        | inl first ↦ inl (inl first)
        | inr before ↦ inr before
      ]
    ]

-- a node that the merge doesn't join keeps its value
pub without_both-other : (value : ℕ → ℤ) (merge : Merge) (node : ℕ)
    → (merge.first ≢ node) × (merge.second ≢ node) → without_both value merge node ≡ value node
without_both-other value merge node other =
    let not_first = other.0 in
    let not_second = other.1 in
    grind (arith, nat_tests)

-- values from 0 on stay so
pub without_both-from_zero : (value : ℕ → ℤ) (merge : Merge) (node : ℕ) → pos 0 ≤ℤ value node
    → pos 0 ≤ℤ without_both value merge node
without_both-from_zero value merge node from_zero =
    without-from_zero (without value merge.first) merge.second node
    (without-from_zero value merge.first node from_zero)

-- both nodes are missing in the sum once
pub total_length-without_both : (value : ℕ → ℤ) (merge : Merge) (bound : ℕ)
    → merge.first < merge.second → merge.second < bound
    → total_length (without_both value merge) bound
    +ℤ (value merge.first +ℤ value merge.second) ≡ total_length value bound
total_length-without_both value merge bound ordered within =
    let kept : without value merge.first merge.second ≡ value merge.second =
    grind (arith, nat_tests) in
    let first = total_length-without value merge.first bound (omega arith) in
    let second = total_length-without (without value merge.first) merge.second bound within in
    omega (arith, ints)
