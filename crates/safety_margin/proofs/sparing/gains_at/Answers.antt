-- Products are small, so the code's numbers are the same.
use Rattle.safety_margin.proofs.Vocabulary.{◌≡◌, ◌*◌, ◌^◌, ◌∙◌, ℤ, pos, neg_ℤ, ◌-ℤ◌, ◌*ℤ◌, ◌≤ℤ◌, FitsSigned, ap, arith, w128, ints, Fraction, IsBelow}
use Rattle.relaxation.specs.GainSizes.{AreSmallGains}
use Rattle.safety_margin.proofs.CodeLemmas.{kept}
use Rattle.safety_margin.proofs.SharingLemmas.{AreSmallParts, small_parts}
use Rattle.safety_margin.proofs.sparing.gains_at.Goals as goal

-- a number below 2^64 in size as the code keeps it
read : (z other : ℤ) → z ≡ other → IsBelow (2 ^ 64) other → kept z ≡ other
read z other is small = ap kept is ∙ at other small
  where
    at : (z : ℤ) → IsBelow (2 ^ 64) z → kept z ≡ z
    at z low = omega (arith, ints, low.above, low.below)

-- what is below 2^40 is below 2^64
wider : (z : ℤ) → IsBelow (2 ^ 40) z → IsBelow (2 ^ 64) z
wider z low = search (arith, ints)

-- the code's product
product_is : (a b first second whole : ℤ) → a ≡ first → b ≡ second → IsBelow (2 ^ 64) first
    → IsBelow (2 ^ 40) second → whole ≡ kept a *ℤ kept b → whole ≡ first *ℤ second
product_is a b first second whole a_is b_is first_small second_small is =
    search (arith, kept, read, wider)

-- differences of small products
fits : (a b : ℤ) → IsBelow (2 ^ 105) a → IsBelow (2 ^ 105) b → FitsSigned w128 (kept a -ℤ kept b)
fits a b first second = omega (arith, ints, first.above, first.below, second.above, second.below)

fits_alone : (b : ℤ) → IsBelow (2 ^ 105) b → FitsSigned w128 (pos 0 -ℤ kept b)
fits_alone b second = omega (arith, ints, second.above, second.below)

-- the code's gains
record AreRead (period value share : Fraction) (whole setup spared : ℤ) : Type 0 where
  scale_is : kept whole ≡ period.den *ℤ share.den
  setup_is : kept (kept setup -ℤ kept spared)
      ≡ (period.num *ℤ share.den) -ℤ (value.num *ℤ share.num)
  hold_is : kept (pos 0 -ℤ kept spared) ≡ neg_ℤ (value.num *ℤ share.num)
  valid : AreSmallGains (period.den *ℤ share.den)
      ((period.num *ℤ share.den) -ℤ (value.num *ℤ share.num)) (neg_ℤ (value.num *ℤ share.num))

are_read : (period value share : Fraction) (whole setup spared : ℤ)
    → AreSmallParts period value share → whole ≡ period.den *ℤ share.den
    → setup ≡ period.num *ℤ share.den → spared ≡ value.num *ℤ share.num
    → AreRead period value share whole setup spared
are_read period value share whole setup spared parts whole_is setup_is spared_is = record {
  scale_is = ap kept whole_is ∙ once (period.den *ℤ share.den) parts.some parts.fine;
  setup_is = rw (setup_is, spared_is)
      (difference (period.num *ℤ share.den) (value.num *ℤ share.num) parts.setup parts.spared);
  hold_is = rw spared_is (negated (value.num *ℤ share.num) parts.spared);
  valid = valid (period.den *ℤ share.den) (period.num *ℤ share.den) (value.num *ℤ share.num)
      parts.some parts.fine parts.setup parts.spared;
}
  where
    once : (z : ℤ) → pos 1 ≤ℤ z → z ≤ℤ pos (4097 * 10 ^ 8) → kept z ≡ z
    once z some fine = omega (arith, ints)

    difference : (a b : ℤ) → IsBelow (2 ^ 78) a → IsBelow (2 ^ 78) b
        → kept (kept a -ℤ kept b) ≡ a -ℤ b
    difference a b first second =
        omega (arith, ints, first.above, first.below, second.above, second.below)

    negated : (b : ℤ) → IsBelow (2 ^ 78) b → kept (pos 0 -ℤ kept b) ≡ neg_ℤ b
    negated b second = omega (arith, ints, second.above, second.below)

    valid : (w a b : ℤ) → pos 1 ≤ℤ w → w ≤ℤ pos (4097 * 10 ^ 8) → IsBelow (2 ^ 78) a
        → IsBelow (2 ^ 78) b → AreSmallGains w (a -ℤ b) (neg_ℤ b)
    valid w a b some fine first second = record {
      some = some;
      fine = fine;
      setup = record {
        above = omega (arith, ints, first.above, second.below);
        below = omega (arith, ints, first.below, second.above);
      };
      hold = record {
        above = omega (arith, ints, second.below);
        below = omega (arith, ints, second.above);
      };
    }

pub product-requires-clause-a : goal.product-requires-clause-a
product-requires-clause-a c =
    let parts = small_parts c.args.period c.args.value c.args.share c.requires.period
    c.requires.value c.requires.share in
    rw (read c.den.result c.args.period.den c.den.ensures.value parts.period_den) parts.period_den

pub product-requires-clause-b : goal.product-requires-clause-b
product-requires-clause-b c =
    let parts = small_parts c.args.period c.args.value c.args.share c.requires.period
    c.requires.value c.requires.share in
    rw (read c.den-2.result c.args.share.den c.den-2.ensures.value
    (wider c.args.share.den parts.share_den)) parts.share_den

pub product-requires-2-clause-a : goal.product-requires-2-clause-a
product-requires-2-clause-a c =
    let parts = small_parts c.args.period c.args.value c.args.share c.requires.period
    c.requires.value c.requires.share in
    rw (read c.num-3.result c.args.period.num c.num-3.ensures.value parts.period_num)
    parts.period_num

pub product-requires-2-clause-b : goal.product-requires-2-clause-b
product-requires-2-clause-b c =
    let parts = small_parts c.args.period c.args.value c.args.share c.requires.period
    c.requires.value c.requires.share in
    rw (read c.den-3.result c.args.share.den c.den-3.ensures.value
    (wider c.args.share.den parts.share_den)) parts.share_den

pub overflow_sub-result : goal.overflow_sub-result
overflow_sub-result c = search (arith, fits)

pub overflow_sub-result-2 : goal.overflow_sub-result-2
overflow_sub-result-2 c = fits_alone c.product-spared.result c.product-spared.ensures.small

pub invariant_of-result : goal.invariant_of-result
invariant_of-result c =
    let parts = small_parts c.args.period c.args.value c.args.share c.requires.period
    c.requires.value c.requires.share in
    let gains = are_read c.args.period c.args.value c.args.share c.product.result
    c.product-2.result c.product-spared.result parts
    (product_is _ _ _ _ _ c.den.ensures.value c.den-2.ensures.value parts.period_den
    parts.share_den c.product.ensures.value)
    (product_is _ _ _ _ _ c.num-3.ensures.value c.den-3.ensures.value parts.period_num
    parts.share_den c.product-2.ensures.value)
    (product_is _ _ _ _ _ c.num.ensures.value c.num-2.ensures.value parts.value_num
    parts.share_num c.product-spared.ensures.value) in
    record { valid = rw (gains.scale_is, gains.setup_is, gains.hold_is) gains.valid }

pub returns : goal.returns
returns c =
    let parts = small_parts c.args.period c.args.value c.args.share c.requires.period
    c.requires.value c.requires.share in
    let gains = are_read c.args.period c.args.value c.args.share c.product.result
    c.product-2.result c.product-spared.result parts
    (product_is _ _ _ _ _ c.den.ensures.value c.den-2.ensures.value parts.period_den
    parts.share_den c.product.ensures.value)
    (product_is _ _ _ _ _ c.num-3.ensures.value c.den-3.ensures.value parts.period_num
    parts.share_den c.product-2.ensures.value)
    (product_is _ _ _ _ _ c.num.ensures.value c.num-2.ensures.value parts.value_num
    parts.share_num c.product-spared.ensures.value) in
    record {
      scale_is = gains.scale_is;
      setup_is = gains.setup_is;
      hold_is = gains.hold_is;
    }
