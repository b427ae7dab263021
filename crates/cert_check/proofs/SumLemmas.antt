-- Sums of weights and counts, one constraint after the other.
use Rattle.cert_check.proofs.Vocabulary.{◌≡◌, ◌<◌, ◌+◌, ◌*◌, ◌^◌, ◌≤◌, ℕ, ℤ, pos, ◌+ℤ◌, ◌≤ℤ◌, neg_ℤ, Bool, true, false, if◌then◌else◌, List, length, get_or, drop, ap, ◌∙◌, arith, ints, drop_all, Constraint, count_of, IsBelow}
use Rattle.std.proofs.lemmas.List.Sums.{sum_by-cons}
use Rattle.cts_model.specs.Vocabulary.{total_count, total_weight}
use Rattle.cert_check.proofs.FirstPlaces.{rest_is}

-- with what is left these are the sums of the cycle, and no more than so many constraints have
pub record AreSumsBy (cycle : List Constraint) (place : ℕ) (weight count : ℤ) : Type 0 where
  pub all_weight : weight +ℤ total_weight (drop place cycle) ≡ total_weight cycle
  pub all_count : count +ℤ pos (total_count (drop place cycle)) ≡ pos (total_count cycle)
  pub above : neg_ℤ (pos (place * 10 ^ 12)) ≤ℤ weight
  pub below : weight ≤ℤ pos (place * 10 ^ 12)
  pub some : pos 0 ≤ℤ count
  pub few : count ≤ℤ pos place

-- a constraint counts the period once at most
once : (setup : Bool) → (if setup then 1 else 0) ≤ 1
once true = omega arith
once false = omega arith

-- one constraint more
pub sums_next : (cycle : List Constraint) (place : ℕ) (d : Constraint)
    (weight count heavier more : ℤ) → place < length cycle
    → IsBelow (10 ^ 12) (get_or cycle place d).weight
    → heavier ≡ weight +ℤ (get_or cycle place d).weight
    → more ≡ count +ℤ pos (count_of (get_or cycle place d))
    → AreSumsBy cycle place weight count → AreSumsBy cycle (place + 1) heavier more
sums_next cycle place d weight count heavier more within small weighs counts by =
    let next = get_or cycle place d in
    let left = ap total_weight (rest_is cycle place d within) in
    let times = ap total_count (rest_is cycle place d within)
    ∙ sum_by-cons count_of next (drop (place + 1) cycle) in
    let one = once next.setup in
    record {
      all_weight = omega (arith, ints, left, weighs, by.all_weight);
      all_count = omega (arith, ints, times, counts, by.all_count);
      above = omega (arith, ints, weighs, small.above, by.above);
      below = omega (arith, ints, weighs, small.below, by.below);
      some = omega (arith, ints, counts, by.some);
      few = omega (arith, ints, counts, one, by.few);
    }

-- after the last they are the sums
pub sums_all : (cycle : List Constraint) (place : ℕ) (weight count : ℤ) → length cycle ≤ place
    → AreSumsBy cycle place weight count
    → (weight ≡ total_weight cycle) × (count ≡ pos (total_count cycle))
sums_all cycle place weight count past by =
    let left = ap total_weight (drop_all place cycle past) in
    let times = ap total_count (drop_all place cycle past) in (
      omega (arith, ints, left, by.all_weight),
      omega (arith, ints, times, by.all_count),
    )
