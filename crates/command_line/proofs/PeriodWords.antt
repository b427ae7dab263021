-- The words that a period may be: each spells a fraction within the condition, and the spelling of
-- each such fraction is one of them.
use Rattle.command_line.proofs.Vocabulary.{◌≡◌, ◌↔◌, ◌<◌, ◌≤◌, ◌+◌, ◌-◌, ◌++◌, ◌^◌, not, ℕ, ℤ, pos, negsuc, ◌≤ℤ◌, ◌<ℤ◌, nat_abs, Bool, true, false, cond, IsTrue, List, [], ◌∷◌, length, get_or, decimal, true≢false, refl, sym, ap, ◌∙◌, subst, append-nil, arith, list_any, range_with_len, bytes_eq, ne_eqb, Any-from_list_any, list_any_at, bytes_eq-Decides, Word, is_file_name, is_period, spells_quotient}
use Rattle.std.specs.Fmt.{signed_decimal}
use Rattle.std.specs.Int.RustNames.{int_div}
use Rattle.std.specs.Ordering.{int_eq}
use Rattle.std.proofs.Math.Nat.{div-le_self}
use Rattle.std.proofs.lemmas.Fmt.{decimal_is_IsNumeral_wide}
use Rattle.std.proofs.lemmas.Int.{ints}
use Rattle.std.proofs.lemmas.List.FromFn.{get_or-range_with_len, length-range_with_len}
use Rattle.cts_base.specs.declared.fraction.Fraction.{Fraction}
use Rattle.cts_base.specs.Fractions.{IsBelow, divisor_up_to, fraction_text, quotient_text}
use Rattle.cts_base.proofs.GreatestDivisors.{quotient_text_is, up_to_second}
use Rattle.cts_base.proofs.OneNumberText.{AreDigits, decimal_digits}
use Rattle.cts_base.proofs.Quotients.{lowest_quotients}
use Rattle.cts_model.proofs.ScaleLemmas.{size_same}
use Rattle.cts_model.specs.Vocabulary.{IsMarginPeriod}

-- ---- quotients

-- the text of a quotient of numbers within bounds
pub record IsQuotientWord (above below : ℕ) (word : Word) : Type 0 where
  num : ℕ
  less : num < above
  den : ℕ
  some : 1 ≤ den
  within : den ≤ below
  is : word ≡ quotient_text (pos num) (pos den)

-- the number at a place of a range
in_range : (first count place number : ℕ) → place < length (range_with_len first count)
    → get_or (range_with_len first count) place number ≡ number
    → (number ≡ first + place) × (place < count)
in_range first count place number within here =
    let inside : place < count = omega (arith, within, length-range_with_len first count) in
    (sym here ∙ get_or-range_with_len first count place number inside, inside)

-- a word that passes the test is such a text
quotient_of : (above below : ℕ) (word : Word) → spells_quotient above below word ≡ true
    → IsQuotientWord above below word
unfolding spells_quotient
quotient_of above below word passes =
    let (place, num, within, here, over) = Any-from_list_any (λ (num : ℕ). list_any (λ (den : ℕ).
    bytes_eq word (quotient_text (pos num) (pos den))) (range_with_len 1 below))
    (range_with_len 0 above) passes in
    let (place', den, within', here', same) = Any-from_list_any (λ (den : ℕ).
    bytes_eq word (quotient_text (pos num) (pos den))) (range_with_len 1 below) over in
    let first = in_range 0 above place num within here in
    let second = in_range 1 below place' den within' here' in
    record {
      num = num;
      less = omega (arith, first.0, first.1);
      den = den;
      some = omega (arith, second.0);
      within = omega (arith, second.0, second.1);
      is = (bytes_eq-Decides word (quotient_text (pos num) (pos den))).0 same;
    }

-- and such a text passes it
quotient_passes : (above below : ℕ) (word : Word) → IsQuotientWord above below word
    → spells_quotient above below word ≡ true
unfolding spells_quotient
quotient_passes above below word spelled =
    let over : ℕ → Bool = λ num. list_any (λ (den : ℕ).
    bytes_eq word (quotient_text (pos num) (pos den))) (range_with_len 1 below) in
    let at_place : get_or (range_with_len 0 above) spelled.num 0 ≡ spelled.num =
    get_or-range_with_len 0 above spelled.num 0 spelled.less ∙ omega arith in
    list_any_at over (range_with_len 0 above) spelled.num 0
    (omega (arith, spelled.less, length-range_with_len 0 above))
    (subst (λ num. over num ≡ true) (sym at_place)
    (inner (spelled.den - 1) (omega (arith, spelled.some))))
  where
    inner : (place : ℕ) → 1 + place ≡ spelled.den
        → list_any (λ (den : ℕ). bytes_eq word (quotient_text (pos spelled.num) (pos den)))
        (range_with_len 1 below) ≡ true
    inner place is = list_any_at (λ (den : ℕ). bytes_eq word (quotient_text (pos spelled.num)
        (pos den))) (range_with_len 1 below) place 0
        (omega (arith, is, spelled.within, length-range_with_len 1 below))
        (subst (λ den. bytes_eq word (quotient_text (pos spelled.num) (pos den)) ≡ true)
        (sym (get_or-range_with_len 1 below place 0 (omega (arith, is, spelled.within)) ∙ is))
        ((bytes_eq-Decides word (quotient_text (pos spelled.num) (pos spelled.den))).1 spelled.is))

-- ---- periods

-- a period that the word spells
pub record IsPeriodWord (word : Word) : Type 0 where
  pub period : Fraction
  pub spelled : word ≡ fraction_text period.num period.den
  pub within : IsMarginPeriod period

-- the fraction of two such numbers
of_quotient : (word : Word) → IsQuotientWord (10 ^ 15) (10 ^ 4) word → IsPeriodWord word
unfolding quotient_text
of_quotient word quotient =
    let num = quotient.num in
    let den = quotient.den in
    let divisor = divisor_up_to den num den in
    let (least, greatest) = up_to_second num den quotient.some in
    record {
      period = record {
        num = int_div (pos num) (pos divisor);
        den = int_div (pos den) (pos divisor);
        lowest = lowest_quotients (pos num) (pos den) (pos divisor)
            (omega (arith, ints, quotient.some)) (omega (arith, ints, least)) greatest;
      };
      spelled = quotient.is;
      within = record {
        from_zero = omega (arith, ints);
        short = omega (arith, ints, div-le_self num divisor, quotient.less);
        fine = omega (arith, ints, div-le_self den divisor, quotient.within);
      };
    }

-- a word that passes spells a period
pub period_spelled : (word : Word) → is_period word ≡ true → IsPeriodWord word
unfolding is_period
period_spelled word passes = of_quotient word (quotient_of (10 ^ 15) (10 ^ 4) word passes)

-- and one that spells a period passes
pub period_passes : (word : Word) (period : Fraction) → IsMarginPeriod period
    → word ≡ fraction_text period.num period.den → is_period word ≡ true
unfolding is_period
period_passes word period within spelled =
    let num = nat_abs period.num in
    let den = nat_abs period.den in
    let num_is : pos num ≡ period.num = size_same period.num within.from_zero in
    let some = period.lowest.some_den in
    let den_is : pos den ≡ period.den = size_same period.den (omega (arith, ints, some)) in
    quotient_passes (10 ^ 15) (10 ^ 4) word (record {
      num = num;
      less = below num period.num (10 ^ 15) num_is within.short;
      den = den;
      some = from_one den period.den den_is some;
      within = up_to den period.den (10 ^ 4) den_is within.fine;
      is = spelled ∙ quotient_text_is period.num period.den period some refl
          ∙ (λ i. quotient_text (sym num_is i) (sym den_is i));
    })
  where
    below : (n : ℕ) (z : ℤ) (bound : ℕ) → pos n ≡ z → z <ℤ pos bound → n < bound
    below n z bound same less = omega (arith, ints)

    from_one : (n : ℕ) (z : ℤ) → pos n ≡ z → pos 1 ≤ℤ z → 1 ≤ n
    from_one n z same some = omega (arith, ints)

    up_to : (n : ℕ) (z : ℤ) (bound : ℕ) → pos n ≡ z → z ≤ℤ pos bound → n ≤ bound
    up_to n z bound same within = omega (arith, ints)

-- its numbers are small
pub small_period : (period : Fraction) → IsMarginPeriod period
    → IsBelow (10 ^ 37) period.num × IsBelow (10 ^ 37) period.den
small_period period within = (
  record {
    above = omega (arith, ints, within.from_zero);
    below = omega (arith, ints, within.short);
  },
  record {
    above = omega (arith, ints, period.lowest.some_den);
    below = omega (arith, ints, within.fine);
  },
)

-- ---- no `-`

-- digits begin with none
digits_first : (digits more : List ℕ) → 0 < length digits → AreDigits digits
    → is_file_name (digits ++ more) ≡ true
digits_first [] more some are = absurd (omega arith)
digits_first (byte ∷ digits) more some are =
    ap not (ne_eqb byte 45 (λ same. omega (arith, same, are.0)))

-- nor does a fraction from 0 on
fraction_first : (num den : ℤ) → pos 0 ≤ℤ num → num <ℤ pos (10 ^ 15)
    → is_file_name (fraction_text num den) ≡ true
fraction_first (negsuc num) den from short = absurd (omega (arith, ints))
fraction_first (pos num) den from short = at (int_eq den (pos 1))
  where
    some : 0 < length (decimal num)
    some = (decimal_is_IsNumeral_wide num (omega (arith, ints))).0.0

    at : (whole : Bool)
        → is_file_name (cond whole (decimal num) (decimal num ++ 47 ∷ signed_decimal den)) ≡ true
    at true = subst (λ text. is_file_name text ≡ true) (append-nil (decimal num))
        (digits_first (decimal num) [] some (decimal_digits num))
    at false = digits_first (decimal num) (47 ∷ signed_decimal den) some (decimal_digits num)

-- so no period does
pub period_first : (word : Word) → is_period word ≡ true → is_file_name word ≡ true
period_first word passes =
    let spells = period_spelled word passes in
    subst (λ text. is_file_name text ≡ true) (sym spells.spelled)
    (fraction_first spells.period.num spells.period.den spells.within.from_zero
    spells.within.short)

-- ---- what is read of a word

-- the word spells no small fraction but those with this property
abbrev pub SpellsOnly : (Fraction → Type 0) → Word → Type 0
SpellsOnly Has word = (period : Fraction) → IsBelow (10 ^ 37) period.num
    → IsBelow (10 ^ 37) period.den → word ≡ fraction_text period.num period.den → Has period

-- so it is with the period of a word that passes
pub period_has : (Has : Fraction → Type 0) (word : Word) → SpellsOnly Has word
    → (passes : is_period word ≡ true) → Has (period_spelled word passes).period
period_has Has word only passes =
    let spells = period_spelled word passes in
    let small = small_period spells.period spells.within in
    only spells.period small.0 small.1 spells.spelled

-- a word that spells no fraction doesn't pass
pub unread_period : (word : Word) → SpellsOnly (λ period. ⊥) word → false ≡ is_period word
unread_period word only = at (is_period word) refl
  where
    at : (passes : Bool) → is_period word ≡ passes → false ≡ passes
    at false is = refl
    at true is = absurd (period_has (λ period. ⊥) word only is)

-- and one that spells this one passes exactly where it is a period
pub read_period : (word : Word) (period : Fraction) (within : Bool)
    → word ≡ fraction_text period.num period.den → SpellsOnly (λ other. period ≡ other) word
    → IsTrue within ↔ IsMarginPeriod period → within ≡ is_period word
read_period word period true spelled only is = sym (period_passes word period (is.0 refl) spelled)
read_period word period false spelled only is = at (is_period word) refl
  where
    at : (passes : Bool) → is_period word ≡ passes → false ≡ passes
    at false same = refl
    at true same = absurd (true≢false (sym (is.1 (subst IsMarginPeriod
        (sym (period_has (λ other. period ≡ other) word only same))
        (period_spelled word same).within))))
