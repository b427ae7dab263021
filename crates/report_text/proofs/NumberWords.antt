-- The word of a number and the number: whole numbers, and fractions that are whole steps.
use Rattle.report_text.proofs.Vocabulary.{◌≡◌, ◌≤◌, ◌^◌, ℕ, ℤ, pos, negsuc, ◌+ℤ◌, ◌≤ℤ◌, nat_abs, List, FitsSigned, refl, ◌∙◌, arith, w128, ints, signed_decimal, int_div, Fraction, IsBelow, divisor_up_to, quotient_text, SpellsWhole, HaveSmallSizes, kept_size, few_digits, up_to_second, quotient_text_is, whole_text, whole_spelled, quotient_text_spelled, fraction_spelled, int_div-le, lowest_quotients, same_value, IsFractionForm, AreSteps, IsWholeSteps, AreFewSteps}

-- ---- whole numbers

-- the word of a number below 10^37 in size is what a report has for it
pub whole_word : (word : List ℕ) (value : ℤ) → IsBelow (10 ^ 37) value
    → SpellsWhole word value → word ≡ signed_decimal value
whole_word word value small spells = whole_text word value (few_digits value small) spells

-- what is read of a word, where it is such a number, is the one of the word
pub whole_read : (word : List ℕ) (value read number : ℤ) → SpellsWhole word value
    → read ≡ kept_size value → number ≡ read → IsBelow (10 ^ 37) number
    → word ≡ signed_decimal number
whole_read word value read number spells kept same small = search (arith, whole_word)

-- and what a report has for such a number spells it
pub spelled_whole : (value : ℤ) → IsBelow (10 ^ 37) value
    → SpellsWhole (signed_decimal value) value
spelled_whole value small = whole_spelled value (few_digits value small)

-- ---- steps

-- an i128 holds a number below 10^37 in size
pub fits : (n : ℤ) → IsBelow (10 ^ 37) n → FitsSigned w128 n
fits (pos n) small = let below = small.below in record { sfits = omega (arith, ints, below) }
fits (negsuc n) small = let above = small.above in record { sfits = omega (arith, ints, above) }

-- a number that is no larger in size
pub smaller : (bound : ℕ) (a b : ℤ) → nat_abs a ≤ nat_abs b → IsBelow bound b
    → IsBelow bound a
smaller bound (pos a) (pos b) less small = search (arith, ints)
smaller bound (pos a) (negsuc b) less small = search (arith, ints)
smaller bound (negsuc a) (pos b) less small = search (arith, ints)
smaller bound (negsuc a) (negsuc b) less small = search (arith, ints)

-- so many steps are below a bound in size just where they are neither the bound nor more
pub below_bound : (bound : ℕ) (steps : ℤ)
    → (pos bound ≤ℤ steps → ⊥) → ((steps +ℤ pos bound) ≤ℤ pos 0 → ⊥) → IsBelow bound steps
below_bound bound steps low high = search (arith, ints)

pub within_bound : (bound : ℕ) (steps : ℤ) → IsBelow bound steps
    → (pos bound ≤ℤ steps → ⊥) × ((steps +ℤ pos bound) ≤ℤ pos 0 → ⊥)
within_bound bound steps small = search (arith, ints)

-- the word of a fraction that is so many steps is what a report has for those steps
pub steps_word : (word : List ℕ) (over num den steps : ℤ) → pos 1 ≤ℤ over
    → IsFractionForm word num den → HaveSmallSizes num den → AreSteps over num den steps
    → word ≡ quotient_text steps over
steps_word word over num den steps some form small are =
    let fraction : Fraction = record { num = num; den = den; lowest = form.1 small } in
    quotient_text_spelled word num den (few_digits num small.0) (few_digits den small.1) form.0
    ∙ quotient_text_is steps over fraction some are

-- the fraction that a report has for so many steps
pub record HasFraction (over steps num den : ℤ) : Type 0 where
  pub form : IsFractionForm (quotient_text steps over) num den
  pub small : HaveSmallSizes num den
  pub are : AreSteps over num den steps

-- what a report has for so many steps is a fraction, of that many steps
pub spelled_steps : (over steps : ℤ) → pos 1 ≤ℤ over → IsBelow (10 ^ 37) over
    → IsBelow (10 ^ 37) steps → (num : ℤ) × (den : ℤ) × HasFraction over steps num den
unfolding quotient_text
spelled_steps (negsuc over) steps some small small' = absurd (omega (arith, ints, some))
spelled_steps (pos over) steps some small small' =
    let divisor = divisor_up_to over (nat_abs steps) over in
    let (least, greatest) = up_to_second (nat_abs steps) over (omega (arith, ints, some)) in
    let positive : pos 1 ≤ℤ pos divisor = omega (arith, ints, least) in
    let num = int_div steps (pos divisor) in
    let den = int_div (pos over) (pos divisor) in
    let lowest = lowest_quotients steps (pos over) (pos divisor) some positive greatest in
    let small_num = smaller (10 ^ 37) num steps (int_div-le steps (pos divisor) positive) small' in
    let small_den =
    smaller (10 ^ 37) den (pos over) (int_div-le (pos over) (pos divisor) positive) small in (
      num,
      den,
      record {
        form = (
          fraction_spelled (quotient_text steps (pos over)) num den (few_digits num small_num)
              (few_digits den small_den) lowest.some_den refl,
          λ _. lowest,
        );
        small = (small_num, small_den);
        are = same_value steps (pos over) (pos divisor) some positive greatest;
      },
    )

-- a word of whole steps within the bound is what a report has for some
pub denoted_steps : (word : List ℕ) (over num den : ℤ) (bound : ℕ) → pos 1 ≤ℤ over
    → IsFractionForm word num den → IsWholeSteps over word → AreFewSteps over (pos bound) word
    → (steps : ℤ) × IsBelow bound steps × (word ≡ quotient_text steps over)
denoted_steps word over num den bound some form whole few =
    let (small, each) = few num den form.0 in
    let (steps, are) = whole num den form.0 small in
    let (low, high) = each steps are in (
      steps,
      below_bound bound steps low high,
      steps_word word over num den steps some form small are,
    )
