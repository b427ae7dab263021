-- The ratio negated, over the period's denominator.
use Rattle.safety_margin.proofs.Vocabulary.{◌≡◌, ◌≤◌, ◌*◌, ◌^◌, ◌∙◌, ℕ, zero, suc, ℤ, pos, negsuc, neg_ℤ, ◌+ℤ◌, ◌-ℤ◌, ◌*ℤ◌, ◌≤ℤ◌, ◌<ℤ◌, ap, refl, arith, nat_abs, ints, mul-le, Fraction, IsSmallRatio, IsMarginPeriod}
use Rattle.safety_margin.proofs.CodeLemmas.{kept}
use Rattle.safety_margin.proofs.ratio.margin_at.Goals as goal

-- the code's numbers: the numerator negated, and the product of the denominators
record AreRead (period ratio : Fraction) (num product : ℤ) : Type 0 where
  num_is : kept (pos 0 -ℤ kept num) ≡ neg_ℤ ratio.num
  product_is : kept product ≡ ratio.den *ℤ period.den
  some : pos 1 ≤ℤ (ratio.den *ℤ period.den)
  above : neg_ℤ (pos (10 ^ 37)) <ℤ neg_ℤ ratio.num
  below : neg_ℤ ratio.num <ℤ pos (10 ^ 37)
  size : nat_abs (neg_ℤ ratio.num) ≡ nat_abs ratio.num

-- how large the numerator is
num_small : (q p a : ℤ) → pos 1 ≤ℤ q → q ≤ℤ pos (10 ^ 4) → pos 0 ≤ℤ p → p <ℤ pos (10 ^ 15)
    → neg_ℤ ((q *ℤ pos (4097 * 10 ^ 11)) +ℤ (p *ℤ pos 4097)) ≤ℤ a
    → a ≤ℤ ((q *ℤ pos (4097 * 10 ^ 11)) +ℤ (p *ℤ pos 4097))
    → (neg_ℤ (pos (10 ^ 19)) ≤ℤ a) × (a ≤ℤ pos (10 ^ 19))
num_small q p a some fine from_zero short above below = (omega (arith, ints), omega (arith, ints))

-- how large the product is
product_over : (b q : ℤ) → pos 1 ≤ℤ b → b ≤ℤ pos 4097 → pos 1 ≤ℤ q → q ≤ℤ pos (10 ^ 4)
    → (pos 1 ≤ℤ (b *ℤ q)) × ((b *ℤ q) ≤ℤ pos (4097 * 10 ^ 4)) × (kept b *ℤ kept q ≡ b *ℤ q)
product_over (pos b) (pos q) some low other fine =
    let first : b ≤ 4097 = omega (arith, ints) in
    let second : q ≤ 10000 = omega (arith, ints) in
    let third : 1 ≤ b = omega (arith, ints) in
    let fourth : 1 ≤ q = omega (arith, ints) in (
      omega (arith, ints, mul-le 1 1 b q third fourth),
      omega (arith, ints, mul-le b q 4097 10000 first second),
      ap (λ z. z *ℤ kept (pos q)) (once b first) ∙ ap (λ z. pos b *ℤ z) (once_fine q second),
    )
  where
    once : (n : ℕ) → n ≤ 4097 → kept (pos n) ≡ pos n
    once n few = omega (arith, ints)

    once_fine : (n : ℕ) → n ≤ 10000 → kept (pos n) ≡ pos n
    once_fine n few = omega (arith, ints)
product_over (negsuc b) q some low other fine = absurd (omega (arith, ints))
product_over (pos b) (negsuc q) some low other fine = absurd (omega (arith, ints))

are_read : (period ratio : Fraction) (num den other product : ℤ) → IsMarginPeriod period
    → IsSmallRatio period.den period.num ratio.num ratio.den → num ≡ ratio.num → den ≡ ratio.den
    → other ≡ period.den → product ≡ kept den *ℤ kept other → AreRead period ratio num product
are_read period ratio num den other product range small num_is den_is other_is product_is =
    let both = num_small period.den period.num ratio.num period.lowest.some_den range.fine
    range.from_zero range.short small.above small.below in
    let dens = product_over ratio.den period.den small.proper small.low period.lowest.some_den
    range.fine in
    let whole : product ≡ ratio.den *ℤ period.den =
    product_is ∙ rw (den_is, other_is) dens.2 in
    record {
      num_is = rw num_is (negated ratio.num both.0 both.1);
      product_is = rw whole (once (ratio.den *ℤ period.den) dens.0 dens.1);
      some = dens.0;
      above = under ratio.num both.1;
      below = over ratio.num both.0;
      size = size ratio.num;
    }
  where
    negated : (a : ℤ) → neg_ℤ (pos (10 ^ 19)) ≤ℤ a → a ≤ℤ pos (10 ^ 19)
        → kept (pos 0 -ℤ kept a) ≡ neg_ℤ a
    negated a above below = omega (arith, ints)

    once : (z : ℤ) → pos 1 ≤ℤ z → z ≤ℤ pos (4097 * 10 ^ 4) → kept z ≡ z
    once z some fine = omega (arith, ints)

    under : (a : ℤ) → a ≤ℤ pos (10 ^ 19) → neg_ℤ (pos (10 ^ 37)) <ℤ neg_ℤ a
    under a below = omega (arith, ints)

    over : (a : ℤ) → neg_ℤ (pos (10 ^ 19)) ≤ℤ a → neg_ℤ a <ℤ pos (10 ^ 37)
    over a above = omega (arith, ints)

    size : (a : ℤ) → nat_abs (neg_ℤ a) ≡ nat_abs a
    size (pos zero) = refl
    size (pos (suc n)) = refl
    size (negsuc n) = refl

pub of-requires-clause-some_den : goal.of-requires-clause-some_den
of-requires-clause-some_den c =
    let read = are_read c.args.period c.args.ratio c.num.result c.den.result c.den-2.result
    c.product.result c.requires.period c.requires.ratio c.num.ensures.value c.den.ensures.value
    c.den-2.ensures.value c.product.ensures.value in
    rw read.product_is read.some

pub of-requires-clause-small_num : goal.of-requires-clause-small_num
of-requires-clause-small_num c =
    let read = are_read c.args.period c.args.ratio c.num.result c.den.result c.den-2.result
    c.product.result c.requires.period c.requires.ratio c.num.ensures.value c.den.ensures.value
    c.den-2.ensures.value c.product.ensures.value in
    rw read.num_is (record { above = read.above; below = read.below })

pub returns : goal.returns
returns c =
    let read = are_read c.args.period c.args.ratio c.num.result c.den.result c.den-2.result
    c.product.result c.requires.period c.requires.ratio c.num.ensures.value c.den.ensures.value
    c.den-2.ensures.value c.product.ensures.value in
    record {
      value_is = rw (read.product_is, read.num_is) at c.of.ensures.value;
      num = rw (read.num_is, read.size) at c.of.ensures.num;
      den = rw read.product_is at c.of.ensures.den;
    }
