-- A whole number over 1 in lowest terms is the number.
use Rattle.safety_margin.proofs.Vocabulary.{◌≡◌, ◌^◌, ◌∙◌, ℤ, pos, neg_ℤ, ◌+ℤ◌, ◌-ℤ◌, ◌*ℤ◌, ◌≤ℤ◌, ◌<ℤ◌, ap, arith, ints, Fraction, IsBelowAll}
use Rattle.safety_margin.proofs.CodeLemmas.{kept}
use Rattle.safety_margin.proofs.ratio.below_all.Goals as goal

-- over numbers
whole : (period first : Fraction) (asked : ℤ) → first.num *ℤ pos 1 ≡ asked *ℤ first.den
    → first.den ≤ℤ pos 1 → asked ≡ neg_ℤ ((period.den *ℤ pos (10 ^ 11)) +ℤ period.num)
    → IsBelowAll period first
whole period first asked value low is =
    let one = at first.den first.lowest.some_den low in
    record { num_is = plain first.num asked (rw one at value) ∙ is; den_is = one }
  where
    at : (den : ℤ) → pos 1 ≤ℤ den → den ≤ℤ pos 1 → den ≡ pos 1
    at den above below = omega (arith, ints)

    plain : (a b : ℤ) → a *ℤ pos 1 ≡ b *ℤ pos 1 → a ≡ b
    plain a b same = omega (arith, ints)

-- what the code asks for
asked_read : (q p den num product : ℤ) → pos 1 ≤ℤ q → q ≤ℤ pos (10 ^ 4) → pos 0 ≤ℤ p
    → p <ℤ pos (10 ^ 15) → den ≡ q → num ≡ p → product ≡ kept den *ℤ pos (10 ^ 11)
    → kept (pos 0 -ℤ kept (kept product +ℤ kept num)) ≡ neg_ℤ ((q *ℤ pos (10 ^ 11)) +ℤ p)
asked_read q p den num product some fine from_zero short den_is num_is product_is =
    let same : kept den ≡ q = ap kept den_is ∙ once q some fine in
    let whole : product ≡ q *ℤ pos (10 ^ 11) =
    product_is ∙ ap (λ z. z *ℤ pos (10 ^ 11)) same in
    rw (whole, num_is) (at q p some fine from_zero short)
  where
    once : (q : ℤ) → pos 1 ≤ℤ q → q ≤ℤ pos (10 ^ 4) → kept q ≡ q
    once q some fine = omega (arith, ints)

    at : (q p : ℤ) → pos 1 ≤ℤ q → q ≤ℤ pos (10 ^ 4) → pos 0 ≤ℤ p → p <ℤ pos (10 ^ 15)
        → kept (pos 0 -ℤ kept (kept (q *ℤ pos (10 ^ 11)) +ℤ kept p))
        ≡ neg_ℤ ((q *ℤ pos (10 ^ 11)) +ℤ p)
    at q p some fine from_zero short = omega (arith, ints)

pub returns : goal.returns
returns c = search (arith, asked_read, whole)
