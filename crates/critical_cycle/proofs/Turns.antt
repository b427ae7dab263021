-- Cycles that are rotated: their first constraints after the others.
use Rattle.critical_cycle.proofs.Vocabulary.{ℕ, ◌≡◌, ◌≢◌, ◌<◌, ◌≤◌, ◌+◌, ◌-◌, ℤ, pos, ◌+ℤ◌, List, [], ◌∷◌, ◌++◌, length, get_or, take, drop, refl, sym, ◌∙◌, ap, subst, arith, All, AllPairs, ⊎_elim, cases_lt, ints, length-append, drop_more, take-append-drop, get_or_append_left, get_or-append-add, get_or-append_right, All-append, All-take, All-drop, All-from_get_or, filter_map-append, sum_by-append, slice_get, slice_index, Constraint, count_of, Leads, IsCycle, total_weight, total_count, AreWithin, IsFromLowest, constraints_at, tail_at}
use Rattle.critical_cycle.proofs.PlaceLemmas.{from_lowest}

-- the lowest tail comes first where the cycle is rotated to it
pub rotated_from_lowest : (constraints : List Constraint) (cycle rotated : List ℕ) (turn : ℕ) →
    AreWithin constraints cycle → turn < length cycle → rotated ≡ drop turn cycle ++ take turn cycle
    → ((other : ℕ) → other < length cycle → tail_at constraints (slice_index cycle turn) ≤ tail_at
    constraints (slice_index cycle other)) → IsFromLowest (constraints_at constraints rotated)
rotated_from_lowest constraints cycle rotated turn within inside is lowest =
    let first = slice_index cycle turn in
    let back = drop (turn + 1) cycle ++ take turn cycle in
    let parts : rotated ≡ first ∷ back = is ∙ ap (λ l. l ++ take turn cycle)
    (drop_more cycle turn 0 inside) in
    let kept : (P : ℕ → Type 0) → All P cycle → All
    P (first ∷ back) = λ P each. subst (All P) (sym is ∙ parts) (All-append P (drop turn cycle)
    (take turn cycle) (All-drop P turn cycle each) (All-take P turn cycle each)) in
    let Above : ℕ → Type 0 = λ n. tail_at constraints first ≤ tail_at constraints n in
    subst (λ ps. IsFromLowest (constraints_at constraints ps)) (sym parts)
    (from_lowest constraints first back (kept (λ n. n < length constraints) within)
    (kept Above (All-from_get_or Above cycle 0 lowest)))

-- constraints of two parts that lead on have a register between the parts
leads_parts : (from : ℕ) (prefix back : List Constraint) (to : ℕ) → Leads from (prefix ++ back) to
    → (middle : ℕ) × Leads from prefix middle × Leads middle back to
leads_parts from [] back to leads = (from, refl, leads)
leads_parts from (first ∷ prefix) back to (tail, leads) =
    let parts = leads_parts first.head prefix back to leads in (parts.0, (tail, parts.1), parts.2)

-- and where the second part leads on from the first they are one
leads_joined : (from : ℕ) (prefix back : List Constraint) (middle to : ℕ) → Leads from prefix middle
    → Leads middle back to → Leads from (prefix ++ back) to
leads_joined from [] back middle to same leads = subst (λ r. Leads r back to) (sym same) leads
leads_joined from (first ∷ prefix) back middle to (tail, leads) rest =
    (tail, leads_joined first.head prefix back middle to leads rest)

-- a cycle is what leads back to its first register
closed : (cycle : List Constraint) → IsCycle cycle → (start : ℕ) × (0 < length cycle)
    × Leads start cycle start
closed [] is_cycle = absurd is_cycle.closed
closed (first ∷ cycle) is_cycle = (first.tail, omega arith, is_cycle.closed)

-- constraints that lead back to their first register, with no tail twice, are a cycle
pub cycle_from_closed : (cycle : List Constraint) (start : ℕ) → 0 < length cycle → Leads
    start cycle start → AllPairs (λ first second. first.tail ≢ second.tail) cycle → IsCycle cycle
cycle_from_closed [] start some leads once = absurd (omega arith)
cycle_from_closed (first ∷ cycle) start some leads once = record {
  closed = (refl, subst (λ r. Leads first.head cycle r) (sym leads.0) leads.1);
  once = once;
}

-- no tail comes twice in the rotated list either
once_rotated : (prefix back : List Constraint) → AllPairs (λ first second. first.tail ≢ second.tail)
    (prefix ++ back) → AllPairs (λ first second. first.tail ≢ second.tail) (back ++ prefix)
once_rotated prefix back once i j d before within same =
    let size : j < length back + length prefix = omega (arith, length-append back prefix) in
    let whole : length (prefix ++ back) ≡ length prefix + length back = length-append prefix back in
    ⊎_elim (λ low. once (length prefix + i) (length prefix + j) d (omega arith)
    (omega arith) (tail (suffix i) ∙ sym (tail (ahead i (omega arith))) ∙ same ∙ tail (ahead j low)
    ∙ sym (tail (suffix j)))) (λ high. ⊎_elim (λ low. once (j - length back) (length prefix + i)
    d (omega arith) (omega arith) (sym (tail (wrapped j high size)) ∙ sym same ∙ tail (ahead i low)
    ∙ sym (tail (suffix i)))) (λ over. once (i - length back) (j - length back) d (omega arith)
    (omega arith) (sym (tail (wrapped i over (omega arith))) ∙ same ∙ tail (wrapped j high size)))
    (cases_lt i (length back))) (cases_lt j (length back))
  where
    tail : {a b : Constraint} → a ≡ b → a.tail ≡ b.tail
    tail same = ap (λ (c : Constraint). c.tail) same

    suffix : (k : ℕ) → get_or (prefix ++ back) (length prefix + k) d ≡ get_or back k d
    suffix k = get_or-append-add prefix back k d

    ahead : (k : ℕ) → k < length back → get_or (back ++ prefix) k d ≡ get_or back k d
    ahead k low = get_or_append_left back prefix d k low

    wrapped : (k : ℕ) → length back ≤ k → k < length back + length prefix
        → get_or (back ++ prefix) k d ≡ get_or (prefix ++ back) (k - length back) d
    wrapped k over within = get_or-append_right back prefix (length back) k d refl over
        ∙ sym (get_or_append_left prefix back d (k - length back) (omega arith))

-- a cycle that is rotated is a cycle
cycle_rotated : (prefix back : List Constraint) → IsCycle (prefix ++ back)
    → IsCycle (back ++ prefix)
cycle_rotated prefix back is_cycle =
    let whole = closed (prefix ++ back) is_cycle in
    let parts = leads_parts whole.0 prefix back whole.0 whole.2 in
    cycle_from_closed (back ++ prefix) parts.0
    (omega (arith, length-append prefix back, length-append back prefix, whole.1)) (leads_joined
    parts.0 back prefix whole.0 parts.0 parts.2 parts.1) (once_rotated prefix back is_cycle.once)

-- the weights of two parts
pub total_weight-append : (prefix back : List Constraint)
    → total_weight (prefix ++ back) ≡ total_weight prefix +ℤ total_weight back
total_weight-append [] back = nothing (total_weight back)
  where
    nothing : (a : ℤ) → a ≡ pos 0 +ℤ a
    nothing a = omega (arith, ints)
total_weight-append (first ∷ prefix) back = joined first.weight (total_weight (prefix ++ back))
    (total_weight prefix) (total_weight back) (total_weight-append prefix back)
  where
    joined : (a b c d : ℤ) → b ≡ c +ℤ d → a +ℤ b ≡ (a +ℤ c) +ℤ d
    joined a b c d is = omega (arith, ints)

-- the constraints of a cycle that is rotated
module _ (constraints : List Constraint) (cycle rotated : List ℕ) (turn : ℕ)
    (is : rotated ≡ drop turn cycle ++ take turn cycle) where
  parted : constraints_at constraints cycle
      ≡ constraints_at constraints (take turn cycle) ++ constraints_at constraints (drop turn cycle)
  parted = ap (constraints_at constraints) (sym (take-append-drop turn cycle))
      ∙ filter_map-append (slice_get constraints) (take turn cycle) (drop turn cycle)

  swapped : constraints_at constraints rotated
      ≡ constraints_at constraints (drop turn cycle) ++ constraints_at constraints (take turn cycle)
  swapped = ap (constraints_at constraints) is
      ∙ filter_map-append (slice_get constraints) (drop turn cycle) (take turn cycle)

  -- are a cycle
  pub rotated_cycle : IsCycle (constraints_at constraints cycle)
      → IsCycle (constraints_at constraints rotated)
  rotated_cycle is_cycle
      = subst IsCycle (sym swapped) (cycle_rotated (constraints_at constraints (take turn cycle))
      (constraints_at constraints (drop turn cycle)) (subst IsCycle parted is_cycle))

  -- have the same weights
  pub rotated_weight : total_weight (constraints_at constraints rotated)
      ≡ total_weight (constraints_at constraints cycle)
  rotated_weight =
      let prefix = constraints_at constraints (take turn cycle) in
      let back = constraints_at constraints (drop turn cycle) in
      ap total_weight swapped ∙ total_weight-append back prefix ∙ rotated_sum (total_weight back)
      (total_weight prefix) ∙ sym (ap total_weight parted ∙ total_weight-append prefix back)
    where
      rotated_sum : (a b : ℤ) → a +ℤ b ≡ b +ℤ a
      rotated_sum a b = omega (arith, ints)

  -- count the period as often
  pub rotated_count : total_count (constraints_at constraints rotated)
      ≡ total_count (constraints_at constraints cycle)
  rotated_count =
      let prefix = constraints_at constraints (take turn cycle) in
      let back = constraints_at constraints (drop turn cycle) in
      let rotated_is = ap total_count swapped ∙ sum_by-append count_of back prefix in
      let cycle_is = ap total_count parted ∙ sum_by-append count_of prefix back in
      omega arith

  -- are as many
  pub rotated_length : length (constraints_at constraints rotated)
      ≡ length (constraints_at constraints cycle)
  rotated_length =
      let prefix = constraints_at constraints (take turn cycle) in
      let back = constraints_at constraints (drop turn cycle) in
      let rotated_is = ap length swapped ∙ length-append back prefix in
      let cycle_is = ap length parted ∙ length-append prefix back in
      omega arith

  -- and are at places of the list
  pub rotated_within : AreWithin constraints cycle → AreWithin constraints rotated
  rotated_within within =
      let P : ℕ → Type 0 = λ place. place < length constraints in
      subst (All P) (sym is) (All-append P (drop turn cycle) (take turn cycle)
      (All-drop P turn cycle within) (All-take P turn cycle within))
