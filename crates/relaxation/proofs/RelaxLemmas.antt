-- What looking at one constraint makes of the values and the parents.
use Rattle.relaxation.proofs.Vocabulary.{◌≡◌, ◌^◌, ◌∙◌, ℤ, pos, ◌+ℤ◌, ◌≤ℤ◌, ◌<ℤ◌, true, false, List, length, get_or, All, sym, subst, ap, FitsSigned, arith, w128, get_or_read, ints, Constraint, IsSmallConstraint, IsBelow, Gains, gain_of, value_of, offer_of, GivesNoMore, IsOffer, MatchOption, Bool}
use Rattle.std.specs.Bool.{then_some}
use Rattle.relaxation.proofs.GainLemmas.{kept}
use lib.Signed.{lt_z}

-- what stands past the end
abbrev pub nowhere : Constraint
nowhere = record { setup = false; tail = 0; head = 0; weight = pos 0 }

-- what the code reads of a constraint: the value that it comes from, its gain and the value that it
-- goes to
pub record IsRead (gains : Gains) (constraint : Constraint) (values : List ℤ)
    (from gain to : ℤ) : Type 0 where
  pub within : IsSmallConstraint (length values) constraint
  pub small : All (IsBelow (2 ^ 115)) values
  pub from_is : from ≡ get_or values constraint.tail from
  pub gain_is : gain ≡ gain_of gains constraint
  pub gain_small : IsBelow (2 ^ 80) gain
  pub to_is : to ≡ get_or values constraint.head to

-- the code's sum
sum_read : (from gain : ℤ) → IsBelow (2 ^ 115) from → IsBelow (2 ^ 80) gain
    → kept (kept from +ℤ kept gain) ≡ from +ℤ gain
sum_read from gain small gain_small = omega (arith, ints)

-- an offer is kept as it is
pub offer_kept : (offer : ℤ) → IsBelow (2 ^ 116) offer → kept offer ≡ offer
offer_kept offer small = omega (arith, ints)

-- it fits
pub sum_fits : (from gain : ℤ) → IsBelow (2 ^ 115) from → IsBelow (2 ^ 80) gain
    → FitsSigned w128 (kept from +ℤ kept gain)
sum_fits from gain small gain_small = omega (arith, ints)

-- where the code's test passes, the offer is more
test_true : (offer to : ℤ) → IsBelow (2 ^ 116) offer → IsBelow (2 ^ 115) to
    → lt_z (kept to) offer ≡ true → to <ℤ offer
test_true offer to offer_small small passes = grind (arith, ints)

-- and where it fails, it isn't
test_false : (offer to : ℤ) → IsBelow (2 ^ 116) offer → IsBelow (2 ^ 115) to
    → lt_z (kept to) offer ≡ false → offer ≤ℤ to
test_false offer to offer_small small fails = grind (arith, ints)

module _ {gains : Gains} {constraint : Constraint} {values : List ℤ} {from gain to : ℤ}
    (read : IsRead gains constraint values from gain to) where
  -- the value that it comes from
  from_value : from ≡ value_of values constraint.tail
  from_value = get_or_read values constraint.tail from read.within.tail read.from_is (pos 0)

  -- the value that it goes to
  to_value : to ≡ value_of values constraint.head
  to_value = get_or_read values constraint.head to read.within.head read.to_is (pos 0)

  -- the first is small
  from_small : IsBelow (2 ^ 115) from
  from_small =
      subst (IsBelow (2 ^ 115)) (sym from_value) (read.small constraint.tail (pos 0)
      read.within.tail)

  -- and so is the second
  to_small : IsBelow (2 ^ 115) to
  to_small = subst (IsBelow (2 ^ 115)) (sym to_value) (read.small constraint.head (pos 0)
      read.within.head)

  -- the code's offer is what the constraint gives
  offer_read : kept (kept from +ℤ kept gain) ≡ offer_of gains values constraint
  offer_read = sum_read from gain from_small read.gain_small ∙ (ap (λ z. z +ℤ gain) from_value
      ∙ ap (λ z. value_of values constraint.tail +ℤ z) read.gain_is)

  -- and so is the offer
  offer_small : IsBelow (2 ^ 116) (kept (kept from +ℤ kept gain))
  offer_small = below from_small read.gain_small
    where
      -- a sum of small numbers
      below : IsBelow (2 ^ 115) from → IsBelow (2 ^ 80) gain
          → IsBelow (2 ^ 116) (kept (kept from +ℤ kept gain))
      below first second = record { above = omega (arith, ints); below = omega (arith, ints) }

  -- the answer is the offer where it is more than the head has
  pub offered_read : (b : Bool) → lt_z (kept to) (kept (kept from +ℤ kept gain)) ≡ b
      → MatchOption (then_some b (kept (kept from +ℤ kept gain)))
      (GivesNoMore gains values constraint) (IsOffer gains values constraint)
  offered_read true passes = record {
    is = offer_read;
    more = subst (λ z. value_of values constraint.head <ℤ z) offer_read
        (subst (λ z. z <ℤ kept (kept from +ℤ kept gain)) to_value
        (test_true _ to offer_small to_small passes));
    small = offer_small;
  }
  offered_read false fails = subst (λ z. z ≤ℤ value_of values constraint.head) offer_read
      (subst (λ z. kept (kept from +ℤ kept gain) ≤ℤ z) to_value
      (test_false _ to offer_small to_small fails))
