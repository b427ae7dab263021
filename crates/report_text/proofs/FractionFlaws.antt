-- What is wrong with a word that is to be a fraction, by what is read of it; and how many steps the
-- value of a fraction in lowest terms is.
use Rattle.report_text.proofs.Vocabulary.{◌≡◌, ◌<◌, ◌*◌, ◌%◌, ℕ, zero, suc, ℤ, pos, negsuc, neg_ℤ, ◌*ℤ◌, ◌+ℤ◌, ◌≤ℤ◌, nat_abs, inl, inr, refl, sym, ap, ◌∙◌, subst, arith, ◌↔◌, ◌^◌, ◌<ℤ◌, Bool, IsTrue, List, Option, Some, None, Result, Ok, Err, IsErrAnd, codes, ◌∣◌, int_div, int_rem, dvd-mul_right, ints, quot-rem, unsigned_abs-mul, mod-eq-zero_of_dvd, IsLowest, fraction_text, SpellsWhole, SpellsQuotient, HaveSmallSizes, IsNoFraction, kept_size, Fraction, same_factor, negative, few_digits, slash_differs, fraction_spelled, one_quotient, plain_no_minus, quotient_some, Circuit, IsBelow, AreSteps, AreFewSteps, IsFormed, IsFractionForm, IsWholeSteps, WordHasFlaw, Period, Steps, Flaw, Unknown, Unfit, Large, HasStepsFlaw, IsBetween, IsNegativeQuotient, IsRefusedFor, flaw_in, lowest_quotients, divisor_up_to, up_to_second, ◌/◌, mul-div_cancel'}
use Rattle.cts_base.proofs.OneFraction.{one_fraction}
use Rattle.std.proofs.Math.IntN.{*ℤ_comm}
use Rattle.report_text.specs.LineFields.{Slack}
use Rattle.report_text.specs.declared.field.Flaw.TheVariants.{Form}
use Rattle.report_text.proofs.NumberWords.{within_bound}

-- ---- coprime numbers

-- factors the other way round
rotated : (p q : ℕ) → p * q ≡ q * p
rotated p q = omega arith

-- equal products, without a factor that both sides have
without_factor : (a b c k g p q : ℕ) → 0 < g → g * p ≡ k → g * q ≡ c → a * c ≡ b * k
    → pos a *ℤ pos q ≡ pos p *ℤ pos b
without_factor a b c k g p q some is is' same =
    let crossed : a * (g * q) ≡ b * (g * p) = rw (is', is) same in
    let product : (a * q) * g ≡ (p * b) * g = omega (arith, crossed) in
    same_factor (pos (a * q)) (pos (p * b)) g some (ap pos product)

-- what divides a product and is coprime to one factor divides the other
divides_other : (a b c k : ℕ) → IsLowest (pos a) (pos b) → a * c ≡ b * k → b ∣ c
divides_other a b zero k lowest same =
    let none : b * 0 ≡ 0 = omega arith in subst (λ n. b ∣ n) none (dvd-mul_right b 0)
divides_other a b (suc c) k lowest same =
    let g = divisor_up_to (suc c) k (suc c) in
    let (some, greatest) = up_to_second k (suc c) (omega arith) in
    let whole : g * (suc c / g) ≡ suc c = mul-div_cancel' g greatest.1 in
    let both = one_fraction (pos a) _ _ (pos (suc c / g)) lowest (lowest_quotients (pos k)
    (pos (suc c)) (pos g) (omega (arith, ints)) (omega (arith, ints, some)) greatest)
    (without_factor a b _ k g _ _ some (mul-div_cancel' g greatest.0) whole same) in
    let is : b * g ≡ suc c = ap (λ n. n * g) (ap nat_abs both.1) ∙ rotated (suc c / g) g ∙ whole in
    subst (λ n. b ∣ n) is (dvd-mul_right b g)

-- ---- numbers of steps

-- a remainder whose size is 0
no_rest : (over : ℤ) (b : ℕ) → nat_abs over % b ≡ 0 → int_rem over (pos b) ≡ pos 0
no_rest (pos o) b none = ap pos none
no_rest (negsuc o) b none = ap (λ n. neg_ℤ (pos n)) none

-- a fraction in lowest terms is a whole number of steps only where its denominator divides how many
-- steps make one
pub divides_steps : (over num den steps : ℤ) → IsLowest num den → AreSteps over num den steps
    → int_rem over den ≡ pos 0
divides_steps over num (pos b) steps lowest are =
    let sizes : nat_abs num * nat_abs over ≡ b * nat_abs steps =
    sym (unsigned_abs-mul num over) ∙ ap nat_abs are ∙ unsigned_abs-mul steps (pos b)
    ∙ rotated (nat_abs steps) b in
    let divides = divides_other (nat_abs num) b (nat_abs over) (nat_abs steps)
    (record { some_den = lowest.some_den; coprime = lowest.coprime }) sizes in
    no_rest over b (mod-eq-zero_of_dvd b divides)
divides_steps over num (negsuc b) steps lowest are = search (arith, ints)

-- two minus signs are none
minus_twice : (n : ℕ) → neg_ℤ (neg_ℤ (pos n)) ≡ pos n
minus_twice zero = refl
minus_twice (suc n) = refl

-- a minus sign before a product
minus_times : (n : ℕ) (x : ℤ) → negsuc n *ℤ x ≡ neg_ℤ (pos (suc n) *ℤ x)
minus_times n (pos m) = refl
minus_times n (negsuc m) = sym (minus_twice (suc n * suc m))

times_minus : (x : ℤ) (d : ℕ) → neg_ℤ x *ℤ pos d ≡ neg_ℤ (x *ℤ pos d)
times_minus (pos zero) d = omega (arith, ints)
times_minus (pos (suc n)) d = refl
times_minus (negsuc n) d = sym (minus_twice (suc n * d))

-- factors in another order
last_first : (a : ℤ) (b c : ℕ) → (a *ℤ pos b) *ℤ pos c ≡ (a *ℤ pos c) *ℤ pos b
last_first (pos a) b c = ap pos (omega arith)
last_first (negsuc a) b c = search (arith, negative)

above_each : (n : ℕ) (q : ℤ) (d : ℕ) → pos n *ℤ (q *ℤ pos d) ≡ (pos n *ℤ q) *ℤ pos d
above_each n q d =
    *ℤ_comm (pos n) (q *ℤ pos d) ∙ last_first q d n ∙ ap (λ x. x *ℤ pos d) (*ℤ_comm q (pos n))

of_each : (a q : ℤ) (d : ℕ) → a *ℤ (q *ℤ pos d) ≡ (a *ℤ q) *ℤ pos d
of_each (pos n) q d = above_each n q d
of_each (negsuc n) q d = search (arith, minus_times, above_each, times_minus)

-- and then it is so many
pub steps_are : (over num den : ℤ) → pos 1 ≤ℤ den → int_rem over den ≡ pos 0
    → AreSteps over num den (num *ℤ int_div over den)
steps_are over num (pos d) some none =
    ap (λ n. num *ℤ n) (sym (quot-rem over (pos d)) ∙ whole (int_div over (pos d) *ℤ pos d)
    (int_rem over (pos d)) none) ∙ of_each num (int_div over (pos d)) d
  where
    whole : (product rest : ℤ) → rest ≡ pos 0 → product +ℤ rest ≡ product
    whole product rest is = omega (arith, ints, is)
steps_are over num (negsuc d) some none = absurd (omega (arith, ints, some))

-- and no other number
pub one_number_of_steps : (over num den steps other : ℤ) → pos 1 ≤ℤ den
    → AreSteps over num den steps → AreSteps over num den other → steps ≡ other
one_number_of_steps over num (pos d) steps other some are are' = search (arith, ints, same_factor)
one_number_of_steps over num (negsuc d) steps other some are are' = search (arith, ints)

-- ---- what is read

-- a fraction that is read is spelled as a quotient
pub read_quotient_is : (text : List ℕ) (fraction : Fraction)
    → HaveSmallSizes fraction.num fraction.den → text ≡ fraction_text fraction.num fraction.den
    → SpellsQuotient text fraction.num fraction.den
read_quotient_is text fraction small same = search (arith, fraction_spelled, few_digits)

-- `?` passes a flaw on as it is
pub passed_flaw : {X : Type 0} (result : Result X Flaw) (flaw : Flaw) (Holds : Option Flaw → Type 0)
    → IsErrAnd result (λ passed. passed ≡ flaw) → Holds (Some flaw) → Holds (flaw_in result)
passed_flaw (Ok value) flaw Holds is has = absurd is
passed_flaw (Err passed) flaw Holds is has = subst (λ f. Holds (Some f)) (sym is) has

-- ---- of a quotient that is spelled

module _ (text : List ℕ) (num den : ℤ) (spells : SpellsQuotient text num den) where
  -- what holds of it holds of each quotient that the text spells
  of_spelled : (Holds : ℤ → ℤ → Type 0) → Holds num den → (num' den' : ℤ)
      → SpellsQuotient text num' den' → Holds num' den'
  of_spelled Holds holds num' den' spells' =
      let both = one_quotient text num den num' den' spells spells' in
      subst (λ d. Holds num' d) both.1 (subst (λ n. Holds n den) both.0 holds)

  -- a small quotient in lowest terms, by what is wrong with its number of steps
  pub steps_denoted : (over bound : ℤ) → HaveSmallSizes num den → IsLowest num den
      → (flaw : Option Flaw) → HasStepsFlaw over bound num den flaw → (circuit : Circuit)
      → WordHasFlaw circuit (Steps over bound) text flaw
  steps_denoted over bound small lowest flaw has circuit = at flaw has
    where
      formed : IsFormed (Steps over bound) text
      formed = (num, den, (spells, λ _. lowest))

      whole : (steps : ℤ) × AreSteps over num den steps → IsWholeSteps over text
      whole steps num' den' spells' small' =
          of_spelled (λ n d. (s : ℤ) × AreSteps over n d s) steps num' den' spells'

      few : ((steps : ℤ) → AreSteps over num den steps
          → (bound ≤ℤ steps → ⊥) × ((steps +ℤ bound) ≤ℤ pos 0 → ⊥)) → AreFewSteps over bound text
      few within num' den' spells' =
          of_spelled (λ n d. HaveSmallSizes n d × ((steps : ℤ) → AreSteps over n d steps
          → (bound ≤ℤ steps → ⊥) × ((steps +ℤ bound) ≤ℤ pos 0 → ⊥))) (small, within) num' den'
          spells'

      at : (flaw : Option Flaw) → HasStepsFlaw over bound num den flaw
          → WordHasFlaw circuit (Steps over bound) text flaw
      at None has = (formed, tt, whole has.2, few has.3)
      at (Some Form) has = absurd (has tt)
      at (Some Unknown) has = absurd (has.1 tt)
      at (Some Unfit) has = (formed, tt, λ are. has.2 (are num den spells small))
      at (Some Large) has = (formed, tt, whole has.2, λ are. has.3 (are num den spells).1)

  -- one that isn't below 0
  pub from_zero : (IsNegativeQuotient text → ⊥) → pos 0 ≤ℤ num
  from_zero not_negative = at num (λ below. not_negative (num, den, spells, below))
    where
      at : (n : ℤ) → (n <ℤ pos 0 → ⊥) → pos 0 ≤ℤ n
      at n differs = grind (arith, ints)

  module _ (circuit : Circuit) (lowest : IsLowest num den) (some : pos 0 ≤ℤ num) where
    -- and that is within a period's bounds
    pub period_within : (num <ℤ pos (10 ^ 18)) × (den ≤ℤ pos 4097)
        → WordHasFlaw circuit Period text None
    period_within within = (
      (num, den, (spells, λ _. lowest), some),
      tt,
      tt,
      of_spelled (λ n d. (n <ℤ pos (10 ^ 18)) × (d ≤ℤ pos 4097)) within,
    )

    -- or not
    pub period_past : ((num <ℤ pos (10 ^ 18)) × (den ≤ℤ pos 4097) → ⊥)
        → WordHasFlaw circuit Period text (Some Large)
    period_past past = search arith

-- ---- of a text that is refused

no_form : (text : List ℕ) → IsNoFraction text → (num den : ℤ) → IsFractionForm text num den → ⊥
no_form text (inl none) num den form = none num den form.0
no_form text (inr (num', den', spells', small', not_lowest)) num den form =
    let both = one_quotient text num den num' den' form.0 spells' in
    not_lowest (subst (λ d. IsLowest num' d) both.1 (subst (λ n. IsLowest n den) both.0
    (form.1 (subst (λ d. HaveSmallSizes num d) (sym both.1)
    (subst (λ n. HaveSmallSizes n den') (sym both.0) small')))))

pub steps_refused : (over bound : ℤ) (text : List ℕ) (flaw : Flaw) → IsRefusedFor text flaw
    → (circuit : Circuit) → WordHasFlaw circuit (Steps over bound) text (Some flaw)
steps_refused over bound text Form none circuit = λ form. no_form text none form.0 form.1 form.2
steps_refused over bound text Large (num, den, spells, large) circuit = (
  (num, den, (spells, λ small. absurd (large small))),
  tt,
  λ num' den' spells' small'.
      absurd (large (of_spelled text num' den' spells' HaveSmallSizes small' num den spells)),
  λ few. large (few num den spells).0,
)
steps_refused over bound text flaw none circuit = absurd none

pub period_refused : (text : List ℕ) (flaw : Flaw) → IsRefusedFor text flaw
    → (IsNegativeQuotient text → ⊥) → (circuit : Circuit)
    → WordHasFlaw circuit Period text (Some flaw)
period_refused text Form none not_negative circuit = λ form. no_form text none form.0 form.1 form.2
period_refused text Unknown none not_negative circuit = absurd none
period_refused text Unfit none not_negative circuit = absurd none
period_refused text Large (num, den, spells, large) not_negative circuit = (
  (num, den, (spells, λ small. absurd (large small)), above),
  tt,
  tt,
  λ all.
      let within = all num den spells in
      large (small num den above (quotient_some text num den spells) within.0 within.1),
)
  where
    above : pos 0 ≤ℤ num
    above = from_zero text num den spells not_negative

    small : (n d : ℤ) → pos 0 ≤ℤ n → pos 1 ≤ℤ d → n <ℤ pos (10 ^ 18) → d ≤ℤ pos 4097
        → HaveSmallSizes n d
    small n d some some' few few' = search (arith, ints)

-- a quotient below 0 is no period
pub negative_refused : (text : List ℕ) → IsNegativeQuotient text → IsFormed Period text → ⊥
negative_refused text (num, den, spells, below) (num', den', form, above) =
    let below' = of_spelled text num den spells (λ n d. n <ℤ pos 0) below num' den' form.0 in
    omega (arith, ints, above, below')

-- whether a quotient is below 0 is determined by the number that is kept of it
pub negative_kept : (text : List ℕ) (num den kept : ℤ) (below : Bool) → SpellsQuotient text num den
    → kept ≡ kept_size num → IsTrue below ↔ (kept <ℤ pos 0) → IsTrue below ↔ IsNegativeQuotient text
negative_kept text num den kept below spells is denoted = (
  λ yes. (num, den, spells, kept_below num (subst (λ n. n <ℤ pos 0) is (denoted.0 yes))),
  λ other. denoted.1 (subst (λ n. n <ℤ pos 0) (sym is) (below_kept num
      (of_spelled text other.0 other.1 other.2 (λ n d. n <ℤ pos 0) other.3 num den spells))),
)
  where
    kept_below : (n : ℤ) → kept_size n <ℤ pos 0 → n <ℤ pos 0
    kept_below (pos n) below = absurd (omega (arith, ints, below))
    kept_below (negsuc n) below = omega (arith, ints)

    below_kept : (n : ℤ) → n <ℤ pos 0 → kept_size n <ℤ pos 0
    below_kept (pos n) below = absurd (omega (arith, ints, below))
    below_kept (negsuc n) below = omega (arith, ints)

-- ---- slacks

-- a dash is no number and no quotient: it has neither digits nor a slash
no_whole_dash : (value : ℤ) → SpellsWhole (codes "-") value → ⊥
no_whole_dash (pos number) spells = plain_no_minus (codes "-") spells.0 refl
no_whole_dash (negsuc less) spells = omega (arith, spells.1.0.0.0)

no_quotient_dash : (num den : ℤ) → SpellsQuotient (codes "-") num den → ⊥
no_quotient_dash num den (inl one) = no_whole_dash num one.1
no_quotient_dash num den (inr (some, (prefix, back, split, above, below))) =
    slash_differs (codes "-") prefix back ((λ is. omega (arith, is)), tt) split

-- `-` has no flaw
pub dash_plain : (over bound : ℤ) (text : List ℕ) → text ≡ codes "-" → (circuit : Circuit)
    → WordHasFlaw circuit (Slack over bound) text None
dash_plain over bound text dash circuit =
    let none = subst (λ (t : List ℕ). (num den : ℤ) → SpellsQuotient t num den → ⊥)
    (sym dash) no_quotient_dash in (
      inl dash,
      tt,
      λ num den spells small. absurd (none num den spells),
      λ num den spells. absurd (none num den spells),
    )

-- a word that isn't `-` has the flaw that it has as a number of steps
pub slack_denoted : (over bound : ℤ) (text : List ℕ) → (text ≡ codes "-" → ⊥) → (flaw : Option Flaw)
    (circuit : Circuit) → WordHasFlaw circuit (Steps over bound) text flaw
    → WordHasFlaw circuit (Slack over bound) text flaw
slack_denoted over bound text differs None circuit has = (inr has.0, has.1, has.2, has.3)
slack_denoted over bound text differs (Some Form) circuit has = at
  where
    at : IsFormed (Slack over bound) text → ⊥
    at (inl dash) = differs dash
    at (inr form) = has form
slack_denoted over bound text differs (Some Unknown) circuit has = absurd (has.1 tt)
slack_denoted over bound text differs (Some Unfit) circuit has = (inr has.0, has.1, has.2)
slack_denoted over bound text differs (Some Large) circuit has = (inr has.0, has.1, has.2, has.3)

-- ---- numbers of steps

-- a fraction that is so many steps, below the bound in size
pub steps_small : (over num den : ℤ) (bound : ℕ) (steps : ℤ) → IsLowest num den
    → AreSteps over num den steps → IsBelow bound steps → HasStepsFlaw over (pos bound) num den None
steps_small over num den bound steps lowest are below = (
  tt,
  tt,
  (steps, are),
  λ other others. within_bound _ _ (subst (IsBelow bound) (one_number_of_steps over num den _ _
      lowest.some_den are others) below),
)

module _ (over bound : ℤ) (num den : ℤ) (lowest : IsLowest num den) where
  -- a fraction whose denominator doesn't divide the steps of one
  pub steps_unfit : (int_rem over den ≡ pos 0 → ⊥) → HasStepsFlaw over bound num den (Some Unfit)
  steps_unfit rest = (tt, tt, λ steps. rest (divides_steps over num den steps.0 lowest steps.1))

  -- one whose denominator does, and of which so many steps are within the bound
  pub steps_within : int_rem over den ≡ pos 0 → IsBetween bound (num *ℤ int_div over den)
      → HasStepsFlaw over bound num den None
  steps_within none within = (
    tt,
    tt,
    (num *ℤ int_div over den, steps_are over num den lowest.some_den none),
    λ steps are. few (num *ℤ int_div over den) steps (one_number_of_steps over num den _ _
        lowest.some_den (steps_are over num den lowest.some_den none) are) within.0 within.1,
  )
    where
      few : (n m : ℤ) → n ≡ m → n <ℤ bound → pos 0 <ℤ (n +ℤ bound)
          → (bound ≤ℤ m → ⊥) × ((m +ℤ bound) ≤ℤ pos 0 → ⊥)
      few n m same below above = search (arith, ints)

  -- and one of which they aren't
  pub steps_past : int_rem over den ≡ pos 0 → (IsBetween bound (num *ℤ int_div over den) → ⊥)
      → HasStepsFlaw over bound num den (Some Large)
  steps_past none past = (
    tt,
    tt,
    (num *ℤ int_div over den, steps_are _ num _ lowest.some_den none),
    λ all.
        let within = all (num *ℤ int_div over den) (steps_are _ num _ lowest.some_den none) in
        past (
          less (num *ℤ int_div over den) bound within.0,
          less (pos 0) ((num *ℤ int_div over den) +ℤ bound) within.1,
        ),
  )
    where
      less : (n m : ℤ) → (m ≤ℤ n → ⊥) → n <ℤ m
      less n m differs = grind (arith, ints)

  -- what is taken for it are its steps, and they are below the bound in size
  pub steps_taken : int_rem over den ≡ pos 0 → IsBetween bound (num *ℤ int_div over den)
      → (steps : ℤ) → steps ≡ num *ℤ int_div over den
      → AreSteps over num den steps × IsBelow (nat_abs bound) steps
  steps_taken none within steps is = (
    subst (AreSteps over num den) (sym is) (steps_are over num den lowest.some_den none),
    subst (IsBelow (nat_abs bound)) (sym is)
        (below bound (num *ℤ int_div over den) within.0 within.1),
  )
    where
      below : (b n : ℤ) → n <ℤ b → pos 0 <ℤ (n +ℤ b) → IsBelow (nat_abs b) n
      below b n less more = record {
        above = omega (arith, ints, less, more);
        below = omega (arith, ints, less, more);
      }
