-- How far raises take values: one raise, and raises after raises.
use Rattle.relaxation.proofs.Vocabulary.{◌≡◌, ◌<◌, ◌≤◌, ◌+◌, ◌*◌, ◌^◌, ◌∙◌, ℕ, ℤ, pos, ◌+ℤ◌, ◌*ℤ◌, neg_ℤ, ◌≤ℤ◌, ◌<ℤ◌, List, length, set, All, Some, subst, refl, arith, slice_get, get_or_default, length-set, ints, Constraint, IsSmallConstraint, IsBelow, Gains, gain_of, value_of, GivesMore, offer_of, AreRaised, AreRaisedBy}
use Rattle.cts_model.proofs.ScaleLemmas.{scale-add}
use Rattle.relaxation.proofs.Climbs.{all_at}
use Rattle.relaxation.proofs.GainLemmas.{gain_small}
use Rattle.relaxation.proofs.SetLemmas.{at_set}

-- a greater bound does too
pub small_wider : (bound more : ℕ) (values : List ℤ) → bound ≤ more → All (IsBelow bound) values
    → All (IsBelow more) values
small_wider bound more values enough small place default within =
    let it = small place default within in
    record { above = omega (arith, ints, it.above); below = omega (arith, ints, it.below) }

module _ {constraints : List Constraint} {gains : Gains} where
  -- without a raise
  pub AreRaised-none : (values : List ℤ) → AreRaised constraints gains values values
  AreRaised-none values = record {
    registers = refl;
    low = λ least from. from;
    below = λ times other satisfied below. below;
  }

  -- raises after raises
  pub AreRaised-more : {old now later : List ℤ} → AreRaised constraints gains old now
      → AreRaised constraints gains now later → AreRaised constraints gains old later
  AreRaised-more first second = record {
    registers = second.registers ∙ first.registers;
    low = λ least from. second.low least (first.low least from);
    below = λ times other satisfied below.
        second.below times other satisfied (first.below times other satisfied below);
  }

  -- none of so many that may be
  pub AreRaisedBy-none : (raises : ℕ) (values : List ℤ)
      → AreRaisedBy constraints gains raises values values
  AreRaisedBy-none raises values = record {
    raised = AreRaised-none values;
    high = λ greatest up_to register within. higher _ greatest (up_to register within);
  }
    where
      higher : (z greatest : ℤ) → z ≤ℤ greatest → z ≤ℤ (greatest +ℤ pos (raises * 2 ^ 80))
      higher z greatest high = omega (arith, ints)

  -- so many after so many, with room for some more
  pub AreRaisedBy-more : {raises more whole : ℕ} {old now later : List ℤ} → raises + more ≤ whole
      → AreRaisedBy constraints gains raises old now → AreRaisedBy constraints gains more now later
      → AreRaisedBy constraints gains whole old later
  AreRaisedBy-more {raises} {more} {whole} {old} {now} {later} enough first second = record {
    raised = AreRaised-more first.raised second.raised;
    high = λ greatest up_to register within.
        sum _ greatest (second.high (greatest +ℤ pos (raises * 2 ^ 80))
        (first.high greatest up_to) register within);
  }
    where
      -- the sum of both is no more than the whole
      sum : (z greatest : ℤ) → z ≤ℤ ((greatest +ℤ pos (raises * 2 ^ 80)) +ℤ pos (more * 2 ^ 80))
          → z ≤ℤ (greatest +ℤ pos (whole * 2 ^ 80))
      sum z greatest high = omega (arith, ints)

  -- values that were small are no more than the raises higher
  pub small_raised : {raises : ℕ} {old new : List ℤ} (bound more : ℕ)
      → bound + raises * 2 ^ 80 < more → AreRaisedBy constraints gains raises old new
      → All (IsBelow bound) old → All (IsBelow more) new
  small_raised {raises} {old} {new} bound more enough raised small place default within =
      subst (IsBelow more) (get_or_default new place (pos 0) default within)
      (inside _ (raised.raised.low (neg_ℤ (pos bound)) (λ register known.
      lower _ (small register (pos 0) known)) place within) (raised.high
      (pos bound) (λ register known. upper _ (small register (pos 0) known)) place within))
    where
      lower : (z : ℤ) → IsBelow bound z → neg_ℤ (pos bound) ≤ℤ z
      lower z it = omega (arith, ints, it.above)

      upper : (z : ℤ) → IsBelow bound z → z ≤ℤ pos bound
      upper z it = omega (arith, ints, it.below)

      inside : (z : ℤ) → neg_ℤ (pos bound) ≤ℤ z → z ≤ℤ (pos bound +ℤ pos (raises * 2 ^ 80))
          → IsBelow more z
      inside z low high = record { above = omega (arith, ints); below = omega (arith, ints) }

-- an offer is no more than a gain above the greatest
offer_high : (from gain greatest : ℤ) → from ≤ℤ greatest → IsBelow (2 ^ 80) gain
    → (from +ℤ gain) ≤ℤ (greatest +ℤ pos (1 * 2 ^ 80))
offer_high from gain greatest high small = omega (arith, ints, small.below)

-- and no less than the least
offer_low : (least has offer : ℤ) → least ≤ℤ has → has <ℤ offer → least ≤ℤ offer
offer_low least has offer low more = omega (arith, ints)

-- what stays is no higher than with a gain more
stays_high : (z greatest : ℤ) → z ≤ℤ greatest → z ≤ℤ (greatest +ℤ pos (1 * 2 ^ 80))
stays_high z greatest high = omega (arith, ints)

-- what satisfies a constraint is at least what the constraint gives
offered_below : (times : ℕ) (gain from tail head : ℤ) → (pos times *ℤ from) ≤ℤ tail
    → (tail +ℤ (pos times *ℤ gain)) ≤ℤ head → (pos times *ℤ (from +ℤ gain)) ≤ℤ head
offered_below times gain from tail head low met = omega (arith, ints, scale-add times from gain)

module _ (gains : Gains) (values : List ℤ) (it : Constraint)
    (small : IsSmallConstraint (length values) it) where
  -- the values with the head's raised
  abbrev raised_values : List ℤ
  raised_values = set values it.head (offer_of gains values it)

  -- as many as before
  long : length raised_values ≡ length values
  long = length-set values it.head (offer_of gains values it)

  -- what holds of the offer at the head, and of each value elsewhere, holds of all
  each : (P : ℕ → ℤ → Type 0) → P it.head (offer_of gains values it) → ((register : ℕ)
      → register < length values → P register (value_of values register)) → (register : ℕ)
      → register < length raised_values → P register (value_of raised_values register)
  each P at_head elsewhere register within = at_set (λ r z. r < length values → P r z)
      values it.head (offer_of gains values it) (pos 0) small.head
      (λ known. at_head) (λ r apart known. elsewhere r known) register (omega (arith, long))

  -- one raise
  pub AreRaisedBy-one : (constraints : List Constraint) (place : ℕ) → slice_get constraints place
      ≡ Some it → GivesMore gains values it → AreRaisedBy constraints gains 1 values raised_values
  AreRaisedBy-one constraints place here more = record {
    raised = record {
      registers = long;
      low = λ least from. each (λ register z. least ≤ℤ z) (offer_low least
          (value_of values it.head) (offer_of gains values it) (from it.head small.head) more) from;
      below = λ times other satisfied low. each (λ register z. (pos times *ℤ z) ≤ℤ other register)
          (offered_below times (gain_of gains it) (value_of values it.tail) (other it.tail) (other
          it.head) (low it.tail small.tail) (all_at (λ (c : Constraint). (other c.tail +ℤ (pos
          times *ℤ gain_of gains c)) ≤ℤ other c.head) constraints satisfied place it here)) low;
    };
    high = λ greatest up_to. each (λ register z. z ≤ℤ (greatest +ℤ pos (1 * 2 ^ 80))) (offer_high
        (value_of values it.tail) (gain_of gains it) greatest (up_to it.tail small.tail) (gain_small
        gains it small.weight)) (λ register within. stays_high _ greatest (up_to register within));
  }

  -- by a tail that isn't above the cap
  pub small_capped : value_of values it.tail ≤ℤ pos (2 ^ 93) → GivesMore gains values it
      → All (IsBelow (2 ^ 94)) values → All (IsBelow (2 ^ 94)) raised_values
  small_capped capped more smalls place default within = subst (IsBelow (2 ^ 94)) (get_or_default
      raised_values place (pos 0) default within) (each (λ register z. IsBelow (2 ^ 94) z)
      (between _ (gain_of gains it) _ capped (smalls it.head (pos 0) small.head) more (gain_small
      gains it small.weight)) (λ register known. smalls register (pos 0) known) place within)
    where
      between : (from gain has : ℤ) → from ≤ℤ pos (2 ^ 93) → IsBelow (2 ^ 94) has
          → has <ℤ (from +ℤ gain) → IsBelow (2 ^ 80) gain → IsBelow (2 ^ 94) (from +ℤ gain)
      between from gain has low it higher little = record {
        above = omega (arith, ints, it.above);
        below = omega (arith, ints, little.below);
      }
