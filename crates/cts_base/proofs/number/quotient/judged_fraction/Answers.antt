use Rattle.std.proofs.Common.{inl, inr, refl, sym, ◌∙◌}
use Rattle.cts_base.proofs.FractionReading.{held_same, kept_some, read_not_lowest, read_spelled, spelled_large}
use Rattle.cts_base.proofs.OneSpelling.{quotient_some}
use Rattle.cts_base.proofs.number.quotient.judged_fraction.Goals as goal

pub returns-in_default : goal.returns-in_default
returns-in_default c = inl (c.in_default.ensures.none.0 refl)

pub returns-then-not-has_small_sizes : goal.returns-then-not-has_small_sizes
returns-then-not-has_small_sizes c =
    let (num, den, spells, is, is') = c.in-Some.ensures.some in
    let quotient = c.in-Some.quotient in (
      num,
      den,
      spells,
      spelled_large num den quotient.num quotient.den is is' (λ small.
          let passes = sym c.if-not-has_small_sizes.true ∙ c.has_small_sizes.ensures.1 small in cc),
    )

pub lowest-requires-clause-some_den : goal.lowest-requires-clause-some_den
lowest-requires-clause-some_den c =
    let (num, den, spells, is, is') = c.in-Some.ensures.some in
    let small = c.has_small_sizes.ensures.0 c.if-not-has_small_sizes.false in
    rw (held_same c.in-Some.quotient.den small.1, is')
    (kept_some den (quotient_some c.args.text.now num den spells))

pub returns-in-Some-lowest : goal.returns-in-Some-lowest
returns-in-Some-lowest c =
    let (num, den, spells, is, is') = c.in-Some.ensures.some in
    let quotient = c.in-Some.quotient in
    let fraction = c.in-Some-lowest.fraction in
    let small = c.has_small_sizes.ensures.0 c.if-not-has_small_sizes.false in
    let (first, second) = c.in-Some-lowest.ensures.some in
    read_spelled c.args.text.now num den quotient.num quotient.den fraction.num fraction.den spells
    is is' small (first ∙ held_same quotient.num small.0) (second ∙ held_same quotient.den small.1)

pub returns-in-None : goal.returns-in-None
returns-in-None c =
    let (num, den, spells, is, is') = c.in-Some.ensures.some in
    let quotient = c.in-Some.quotient in
    let small = c.has_small_sizes.ensures.0 c.if-not-has_small_sizes.false in
    let not_lowest = rw (held_same quotient.num small.0, held_same quotient.den small.1) at
    (c.in-None.ensures.none refl) in
    inr (read_not_lowest c.args.text.now num den quotient.num quotient.den spells is is' small
    not_lowest)
