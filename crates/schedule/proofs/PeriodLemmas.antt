-- Arrivals that satisfy constraints at a period do so by its gains, and the least are the same.
use Rattle.schedule.proofs.Vocabulary.{◌≡◌, ◌*◌, ◌^◌, ◌∙◌, ℕ, ℤ, pos, ◌+ℤ◌, ◌-ℤ◌, ◌*ℤ◌, ◌≤ℤ◌, Bool, true, false, cond, List, All, length, get_or, refl, sym, subst, ap, arith, nat_abs, ints, Fraction, Constraint, IsBelow, AreSmallConstraints, Satisfies, Gains, AdmitsGains, SatisfiesGains, gain_of, AreGainsOf, AreLeastArrivalsBy, AreWithinWeights, IsAdmittedBy, IsLeastScheduleOf, IsSmallPeriod, arrival_of}
use Rattle.std.proofs.Math.IntN.{*ℤ_comm}
use Rattle.cts_model.proofs.ScaleLemmas.{scale-finer, scale-sub}
use Rattle.schedule.proofs.BoundLemmas.{AreWithinWeights-least, once_is, size_same, small_within}

-- what is due counts the period once for a setup constraint, and else never
due_of : (setup : Bool) (num : ℤ) → cond setup num (pos 0) ≡ num *ℤ pos (cond setup 1 0)
due_of true num = omega (arith, ints)
due_of false num = omega (arith, ints)

-- that many times
due_times : (setup : Bool) (num times : ℤ)
    → (num *ℤ times) *ℤ pos (cond setup 1 0) ≡ times *ℤ cond setup num (pos 0)
due_times true num times = omega (arith, ints, *ℤ_comm num times)
due_times false num times = omega (arith, ints)

-- what is asked of two arrivals, as a gain
as_gain : (from to asked due : ℤ) → (from +ℤ asked) ≤ℤ (to +ℤ due) → (from +ℤ (asked -ℤ due)) ≤ℤ to
as_gain from to asked due met = omega (arith, ints)

-- and back, once
asked_once : (from to asked due : ℤ) → (from +ℤ (pos 1 *ℤ (asked -ℤ due))) ≤ℤ to
    → (from +ℤ asked) ≤ℤ (to +ℤ due)
asked_once from to asked due met = omega (arith, ints)

module _ {period : Fraction} {gains : Gains} (are : AreGainsOf period gains)
    (constraints : List Constraint) where
  -- the denominator is its size
  scale_is : pos (nat_abs period.den) ≡ period.den
  scale_is = size_same period.den (omega (arith, ints, period.lowest.some_den))

  -- the gain of a constraint at the period
  gain_is : (it : Constraint) → gain_of gains it
      ≡ (pos (nat_abs period.den) *ℤ it.weight) -ℤ cond it.setup period.num (pos 0)
  gain_is it = rw (are.scale_is, are.setup_is, are.hold_is, scale_is) refl

  -- what satisfies the constraints at a finer scale does so by the gains
  pub by_gains : (times : ℕ) (arrival : ℕ → ℤ) → Satisfies constraints (nat_abs period.den * times)
      (period.num *ℤ pos times) arrival → SatisfiesGains constraints gains times arrival
  by_gains times arrival satisfied place default within =
      let it : Constraint = get_or constraints place default in
      let asked : ℤ = pos (nat_abs period.den) *ℤ it.weight in
      let due : ℤ = cond it.setup period.num (pos 0) in
      let met : (arrival it.tail +ℤ (pos times *ℤ asked))
      ≤ℤ (arrival it.head +ℤ (pos times *ℤ due)) =
      subst (λ z. (arrival it.tail +ℤ z) ≤ℤ (arrival it.head +ℤ (pos times *ℤ due)))
      (scale-finer (nat_abs period.den) times it.weight) (subst
      (λ z. (arrival it.tail +ℤ (pos (nat_abs period.den * times) *ℤ it.weight)) ≤ℤ (arrival it.head
      +ℤ z)) (due_times it.setup period.num (pos times)) (satisfied place default within)) in
      subst (λ z. (arrival it.tail +ℤ z) ≤ℤ arrival it.head)
      (sym (ap (λ z. pos times *ℤ z) (gain_is it) ∙ scale-sub times asked due))
      (as_gain (arrival it.tail) (arrival it.head) (pos times *ℤ asked) (pos times *ℤ due) met)

  -- so some arrivals satisfy them where some do at the period
  pub admits_gains : IsAdmittedBy constraints period → AdmitsGains constraints gains
  admits_gains admitted = (
    admitted.0,
    by_gains 1 admitted.0 (subst (λ n. Satisfies constraints n (period.num *ℤ pos 1) admitted.0)
        (omega arith) (subst (λ (z : ℤ). Satisfies constraints (nat_abs period.den) z admitted.0)
        (once_is period.num) admitted.1)),
  )

  -- and back
  at_period : (arrival : ℕ → ℤ) → SatisfiesGains constraints gains 1 arrival
      → Satisfies constraints (nat_abs period.den) period.num arrival
  at_period arrival satisfied place default within =
      let it : Constraint = get_or constraints place default in
      let asked : ℤ = pos (nat_abs period.den) *ℤ it.weight in
      let due : ℤ = cond it.setup period.num (pos 0) in
      subst (λ z. (arrival it.tail +ℤ asked) ≤ℤ (arrival it.head +ℤ z)) (due_of it.setup period.num)
      (asked_once (arrival it.tail) (arrival it.head) asked due (subst (λ z. (arrival
      it.tail +ℤ (pos 1 *ℤ z)) ≤ℤ arrival it.head) (gain_is it) (satisfied place default within)))

  -- the least by the gains are the least at the period
  pub least_at_period : (at : List ℤ) → AreLeastArrivalsBy constraints gains at
      → IsLeastScheduleOf constraints period.num (nat_abs period.den) at
  least_at_period at least = record {
    satisfies = at_period (arrival_of at) least.satisfies;
    from_zero = least.from_zero;
    least = λ times other some others satisfied. least.least times other some others
        (by_gains times other satisfied);
  }

  -- and they are within the weights
  pub bound_at_period : (at : List ℤ) → AreSmallConstraints (length at) constraints
      → IsSmallPeriod period → IsAdmittedBy constraints period → AreLeastArrivalsBy
      constraints gains at → AreWithinWeights constraints (nat_abs period.den) at
  bound_at_period at small range admitted least =
      AreWithinWeights-least constraints period gains at are range
      (record { small = small; admitted = admits_gains admitted }) least.least

  -- so they are small
  pub small_at_period : (at : List ℤ) → AreSmallConstraints (length at) constraints
      → IsSmallPeriod period → IsAdmittedBy constraints period
      → AreLeastArrivalsBy constraints gains at → All (IsBelow (10 ^ 19)) at
  small_at_period at small range admitted least = small_within constraints period at (10 ^ 19)
      (omega arith) small range least.from_zero (bound_at_period at small range admitted least)
