-- The walk over pairs for the one with the greatest delay, and of several the first.
use Rattle.timing_report.proofs.Vocabulary.{ℕ, ◌≡◌, ◌<◌, ◌+◌, ◌^◌, ◌∙◌, List, length, get_or, Some, inl, inr, sym, ap, subst, arith, ℤ, pos, ◌≤ℤ◌, ◌<ℤ◌, to_z, of_z, w128, cases_lt, ints, slice_get, slice_get_within, get_or_from_slice_get, IsBelow, IsWithin, PairDelay, IsFirstOf, IsTooQuick}

-- the code has a small delay as it is
pub delay_kept : (delay : ℤ) → IsWithin 0 65999999999 delay → to_z w128 (of_z w128 delay) ≡ delay
delay_kept delay small = omega (arith, ints)

-- and it is below what 64 bits hold
pub delay_below : (delay : ℤ) → IsWithin 0 65999999999 delay
    → IsBelow (2 ^ 63) (to_z w128 (of_z w128 delay))
delay_below delay small = rw (delay_kept delay small) (omega (arith, ints))

-- some pair
abbrev pub nobody : PairDelay
nobody = record { from = 0; to = 0; least = pos 0; greatest = pos 0 }

-- of so many pairs each meets the hold time, and none has a greater delay than this one of the
-- list, and none before it as great a delay
pub record IsMostSoFar (hold : ℤ) (pairs : List PairDelay) (count : ℕ) (most : PairDelay)
    : Type 0 where
  pub place : ℕ
  pub within : place < length pairs
  pub here : get_or pairs place most ≡ most
  pub slow : (k : ℕ) (other : PairDelay) → k < count → hold ≤ℤ (get_or pairs k other).least
  pub greatest : (k : ℕ) (other : PairDelay) → k < count
      → (get_or pairs k other).greatest ≤ℤ most.greatest
  pub first : (k : ℕ) (other : PairDelay) → k < place
      → (get_or pairs k other).greatest <ℤ most.greatest

-- before the walk it is the first pair
pub most_first : (hold : ℤ) (pairs : List PairDelay) (pair : PairDelay)
    → slice_get pairs 0 ≡ Some pair → IsMostSoFar hold pairs 0 pair
most_first hold pairs pair here = record {
  place = 0;
  within = slice_get_within pairs 0 pair here;
  here = get_or_from_slice_get pairs 0 pair pair here;
  slow = λ k other before. absurd (omega (arith, before));
  greatest = λ k other before. absurd (omega (arith, before));
  first = λ k other before. absurd (omega (arith, before));
}

module _ (hold : ℤ) (pairs : List PairDelay) (count : ℕ) (most pair : PairDelay)
    (here : slice_get pairs count ≡ Some pair) (so_far : IsMostSoFar hold pairs count most) where
  -- the next pair is the first that comes before the hold time
  pub first_quick : pair.least <ℤ hold → IsFirstOf (IsTooQuick hold) pairs pair
  first_quick quick = record {
    place = count;
    within = slice_get_within pairs count pair here;
    here = get_or_from_slice_get pairs count pair pair here;
    holds = quick;
    first = λ earlier other before too_quick.
        omega (arith, ints, so_far.slow earlier other before, too_quick);
  }

  -- what holds of so many pairs and of the next holds of one more
  one_more : (Holds : PairDelay → Type 0) (k : ℕ) (other : PairDelay) → k < count + 1
      → (k < count → Holds (get_or pairs k other)) → Holds pair → Holds (get_or pairs k other)
  one_more Holds k other early before last = elim (cases_lt k count) [
    | inl inside ↦ before inside
    | inr past ↦ subst Holds (sym
        (ap (λ place. get_or pairs place other) (omega (arith, early, past))
        ∙ get_or_from_slice_get pairs count pair other here)) last
  ]

  -- the next pair meets the hold time and has no greater delay
  pub most_kept : hold ≤ℤ pair.least → pair.greatest ≤ℤ most.greatest
      → IsMostSoFar hold pairs (count + 1) most
  most_kept slow less = record {
    place = so_far.place;
    within = so_far.within;
    here = so_far.here;
    slow = λ k other early. one_more (λ one. hold ≤ℤ one.least) k other early
        (so_far.slow k other) slow;
    greatest = λ k other early. one_more (λ one. one.greatest ≤ℤ most.greatest) k other early
        (so_far.greatest k other) less;
    first = so_far.first;
  }

  -- or it has a greater one
  pub most_taken : hold ≤ℤ pair.least → most.greatest <ℤ pair.greatest
      → IsMostSoFar hold pairs (count + 1) pair
  most_taken slow more = record {
    place = count;
    within = slice_get_within pairs count pair here;
    here = get_or_from_slice_get pairs count pair pair here;
    slow = λ k other early. one_more (λ one. hold ≤ℤ one.least) k other early
        (so_far.slow k other) slow;
    greatest = λ k other early. one_more (λ one. one.greatest ≤ℤ pair.greatest) k other early
        (λ inside. omega (arith, ints, so_far.greatest k other inside, more)) (omega (arith, ints));
    first = λ k other before. omega (arith, ints, so_far.greatest k other before, more);
  }
