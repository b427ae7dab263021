-- Sums of weights and counts: one more constraint, and how large they are.
use Rattle.critical_cycle.proofs.Vocabulary.{ℕ, ◌≡◌, ◌<◌, ◌≤◌, ◌+◌, ◌*◌, ◌^◌, ℤ, pos, ◌+ℤ◌, neg_ℤ, ◌≤ℤ◌, List, [], ◌∷◌, ◌++◌, length, get_or, take, sym, ◌∙◌, ap, arith, All, Bool, true, false, if◌then◌else◌, ints, take_more, length-take, All-head, All-tail, All-take, filter_map-append, sum_by-append, sum_by-cons, slice_get, Constraint, count_of, total_weight, total_count, IsBelow, AreWithin, constraints_at}
use Rattle.critical_cycle.proofs.PlaceLemmas.{constraints_at-cons, length-constraints_at, All-constraints_at}
use Rattle.critical_cycle.proofs.Turns.{total_weight-append}

-- one more place is one more constraint
constraints_at-more : (constraints : List Constraint) (cycle : List ℕ) (i : ℕ) (d : Constraint) → i
    < length cycle → AreWithin constraints cycle → constraints_at constraints (take (i + 1) cycle)
    ≡ constraints_at constraints (take i cycle) ++ get_or constraints (get_or cycle i 0) d ∷ []
constraints_at-more constraints cycle i d more within = ap (constraints_at constraints)
    (take_more cycle i 0 more) ∙ filter_map-append (slice_get constraints) (take i cycle)
    (get_or cycle i 0 ∷ []) ∙ ap (λ cs. constraints_at constraints (take i cycle) ++ cs)
    (constraints_at-cons constraints (get_or cycle i 0) [] d (within i 0 more))

-- its weight is added
pub weight_more : (constraints : List Constraint) (cycle : List ℕ) (i : ℕ) (d : Constraint) (sum
    more : ℤ) → i < length cycle → AreWithin constraints cycle → sum ≡ total_weight (constraints_at
    constraints (take i cycle)) → more ≡ sum +ℤ (get_or constraints (get_or cycle i 0) d).weight
    → more ≡ total_weight (constraints_at constraints (take (i + 1) cycle))
weight_more constraints cycle i d sum more inside within is next =
    let last = get_or constraints (get_or cycle i 0) d in
    next ∙ ap (λ w. w +ℤ last.weight) is
    ∙ sym (ap total_weight (constraints_at-more constraints cycle i d inside within)
    ∙ total_weight-append (constraints_at constraints (take i cycle)) (last ∷ [])
    ∙ ap (λ w. total_weight (constraints_at constraints (take i cycle)) +ℤ w) (alone last.weight))
  where
    alone : (a : ℤ) → a +ℤ pos 0 ≡ a
    alone a = omega (arith, ints)

-- and its count
pub count_more : (constraints : List Constraint) (cycle : List ℕ) (i : ℕ) (d : Constraint) (sum more
    : ℤ) → i < length cycle → AreWithin constraints cycle → sum ≡ pos (total_count (constraints_at
    constraints (take i cycle))) → more ≡ sum +ℤ pos (count_of (get_or constraints (get_or
    cycle i 0) d)) → more ≡ pos (total_count (constraints_at constraints (take (i + 1) cycle)))
count_more constraints cycle i d sum more inside within is next =
    let last = get_or constraints (get_or cycle i 0) d in
    let whole = ap total_count (constraints_at-more constraints cycle i d inside within)
    ∙ sum_by-append count_of (constraints_at constraints (take i cycle)) (last ∷ []) in
    joined sum more (total_count (constraints_at constraints (take i cycle))) (count_of last)
    (total_count (constraints_at constraints (take (i + 1) cycle))) is next
    (omega (arith, whole, sum_by-cons count_of last []))
  where
    joined : (a b : ℤ) (m n k : ℕ) → a ≡ pos m → b ≡ a +ℤ pos n → k ≡ m + n → b ≡ pos k
    joined a b m n k first next both = omega (arith, ints)

-- the size of a sum of weights
weights_below : (per : ℕ) (steps : List Constraint) → All (λ step. IsBelow per step.weight) steps
    → (neg_ℤ (pos (length steps * per)) ≤ℤ total_weight steps)
    × (total_weight steps ≤ℤ pos (length steps * per))
weights_below per [] small = (omega (arith, ints), omega (arith, ints))
weights_below per (step ∷ steps) small =
    let P : Constraint → Type 0 = λ c. IsBelow per c.weight in
    let first = All-head P step steps small in
    let rest = weights_below per steps (All-tail P step steps small) in
    (omega (arith, ints, first.above, rest.0), omega (arith, ints, first.below, rest.1))

-- a constraint counts the period once at most
count_at_most_once : (step : Constraint) → count_of step ≤ 1
count_at_most_once step = once step.setup
  where
    once : (setup : Bool) → (if setup then 1 else 0) ≤ 1
    once true = omega arith
    once false = omega arith

-- so a sum of counts is no more than there are constraints
counts_below : (steps : List Constraint) → total_count steps ≤ length steps
counts_below [] = omega arith
counts_below (step ∷ steps) =
    omega (arith, sum_by-cons count_of step steps, count_at_most_once step, counts_below steps)

-- sums of weights of that size over so many constraints
pub record AreSmallSums (steps : List Constraint) : Type 0 where
  pub above : neg_ℤ (pos (4097 * 10 ^ 11)) ≤ℤ total_weight steps
  pub below : total_weight steps ≤ℤ pos (4097 * 10 ^ 11)
  pub count : total_count steps ≤ 4097

-- of constraints at no more places
pub small_sums : (constraints : List Constraint) (cycle : List ℕ) → AreWithin constraints cycle
    → length cycle ≤ 4097 → All (λ constraint. IsBelow (10 ^ 11) constraint.weight) constraints
    → AreSmallSums (constraints_at constraints cycle)
small_sums constraints cycle within few small =
    let steps = constraints_at constraints cycle in
    let long = length-constraints_at constraints cycle within in
    let weights = weights_below (10 ^ 11) steps
    (All-constraints_at (λ c. IsBelow (10 ^ 11) c.weight) constraints cycle small within) in
    record {
      above = omega (arith, ints, weights.0, long);
      below = omega (arith, ints, weights.1, long);
      count = omega (arith, counts_below steps, long);
    }

-- also part of the way
pub part_small : (constraints : List Constraint) (cycle : List ℕ) (i : ℕ) → AreWithin constraints
    cycle → length cycle ≤ 4097 → All (λ constraint. IsBelow (10 ^ 11) constraint.weight)
    constraints → AreSmallSums (constraints_at constraints (take i cycle))
part_small constraints cycle i within few small = small_sums constraints (take i cycle) (All-take
    (λ place. place < length constraints) i cycle within) (omega (arith, length-take i cycle)) small
