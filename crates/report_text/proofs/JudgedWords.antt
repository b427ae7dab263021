-- Whether a text spells a number, and which; so each word has a flaw by its field or has none, and
-- so each line has.
use Rattle.report_text.proofs.Vocabulary.{◌≡◌, ◌⊎◌, ◌<◌, ◌^◌, ◌==◌, ℕ, zero, suc, ℤ, pos, negsuc, ◌≤ℤ◌, nat_abs, Bool, true, false, true≢false, inl, inr, List, [], ◌∷◌, ◌++◌, drop, refl, sym, ap, subst, ◌∙◌, arith, ◌≤◌, ◌<ℤ◌, ◌+ℤ◌, ◌*ℤ◌, Option, Some, None, codes, IsGcd, int_eq, bytes_eq, AllDigits, IsNumeral, digits_value, starts_with_minus, int_div, int_rem, position, cases_lt, Decides-eqb, Decides-int_eq, ints, by_lt_z, le_of_dvd, bytes_eq-Decides, IsBelow, IsLowest, divisor_up_to, HaveSmallSizes, IsPlainNumeral, SpellsQuotient, SpellsWhole, up_to_second, HasNoSlash, one_split, slash_differs, one_whole, plain_no_minus, quotient_some, whole_no_slash, one_quotient, Circuit, one_register, Flaw, Large, Unfit, Unknown, IsRefusedFor, HasStepsFlaw, IsNegativeQuotient, Field, IsFirstFlaw, LineHasFlaw, NamesRegister, NamesSignal, WordHasFlaw, sooner_flaw, IsNumberOf, map, range_with_len, register_name, signal_name, length}
use Rattle.report_text.specs.declared.field.Flaw.TheVariants.{Form}
use Rattle.report_text.specs.LineFields as field
use Rattle.report_text.proofs.WalkLemmas.{line_first}
use Rattle.report_text.proofs.FractionFlaws.{dash_plain, from_zero, negative_refused, period_past, period_refused, period_within, slack_denoted, steps_denoted, steps_past, steps_refused, steps_unfit, steps_within}
use Rattle.report_text.proofs.NameNumbers.{number_denoted}

-- ---- what a test decides

-- it holds or it doesn't
abbrev pub OrNot : Type 0 → Type 0
OrNot Holds = Holds ⊎ (Holds → ⊥)

decided : {Holds : Type 0} (test : Bool) → (test ≡ true → Holds) × (Holds → test ≡ true)
    → OrNot Holds
decided true is = inl (is.0 refl)
decided false is = inr (λ holds. true≢false (sym (is.1 holds)))

pub same_number : (a b : ℕ) → OrNot (a ≡ b)
same_number a b = decided (a == b) (Decides-eqb a b)

pub same_whole : (a b : ℤ) → OrNot (a ≡ b)
same_whole a b = decided (int_eq a b) (Decides-int_eq a b)

pub same_text : (a b : List ℕ) → OrNot (a ≡ b)
same_text a b = decided (bytes_eq a b) (bytes_eq-Decides a b)

-- a number is below a bound in size
pub size_or_not : (bound : ℕ) (number : ℤ) → OrNot (IsBelow bound number)
size_or_not bound number = search (arith, ints, by_lt_z)

-- ---- whole numbers

digits_or_not : (text : List ℕ) → OrNot (AllDigits 10 text)
digits_or_not [] = inl tt
digits_or_not (byte ∷ bytes) = search (arith, cases_lt, digits_or_not bytes)

numeral_or_not : (text : List ℕ) → OrNot (IsNumeral 10 text)
numeral_or_not text = search (arith, cases_lt, digits_or_not)

plain_or_not : (text : List ℕ) → OrNot (IsPlainNumeral text)
plain_or_not text = search (arith, numeral_or_not, same_number)

-- the number that a text spells, or that it spells none
abbrev pub WholeOrNot : List ℕ → Type 0
WholeOrNot text = ((value : ℤ) × SpellsWhole text value)
    ⊎ ((value : ℤ) → SpellsWhole text value → ⊥)

pub whole_or_not : (text : List ℕ) → WholeOrNot text
whole_or_not text = at (starts_with_minus text) refl
  where
    -- after a minus the number isn't 0
    below : starts_with_minus text ≡ true → IsPlainNumeral (drop 1 text) → (size : ℕ)
        → digits_value 10 (drop 1 text) ≡ size → WholeOrNot text
    below minus plain zero is = inr none
      where
        none : (value : ℤ) → SpellsWhole text value → ⊥
        none (pos number) spells = plain_no_minus text spells.0 minus
        none (negsuc less) spells = omega (arith, is, spells.1.1)
    below minus plain (suc less) is = inl (negsuc less, (minus, (plain, is)))

    at : (minus : Bool) → starts_with_minus text ≡ minus → WholeOrNot text
    at true minus = elim (plain_or_not (drop 1 text)) [
      | inl plain ↦ below minus plain (digits_value 10 (drop 1 text)) refl
      | inr other ↦ inr (none other)
    ]
      where
        none : (IsPlainNumeral (drop 1 text) → ⊥) → (value : ℤ) → SpellsWhole text value → ⊥
        none other (pos number) spells = plain_no_minus text spells.0 minus
        none other (negsuc less) spells = other spells.1.0
    at false plus = elim (plain_or_not text) [
      | inl plain ↦ inl (pos (digits_value 10 text), (plain, refl))
      | inr other ↦ inr (none other)
    ]
      where
        none : (IsPlainNumeral text → ⊥) → (value : ℤ) → SpellsWhole text value → ⊥
        none other (pos number) spells = other spells.0
        none other (negsuc less) spells = true≢false (sym spells.0 ∙ plus)

-- ---- quotients

-- a text has no slash, or there is a first one
slash_or_not : (text : List ℕ) → HasNoSlash text ⊎ ((prefix : List ℕ) × (back : List ℕ)
    × (text ≡ prefix ++ 47 ∷ back) × HasNoSlash prefix)
slash_or_not [] = inl tt
slash_or_not (byte ∷ bytes) = elim (same_number byte 47) [
  | inl slash ↦ inr ([], bytes, ap (λ b. b ∷ bytes) slash, tt)
  | inr other ↦ elim (slash_or_not bytes) [
    | inl none ↦ inl (other, none)
    | inr found ↦
        inr (byte ∷ found.0, found.1, ap (λ bs. byte ∷ bs) found.2, (other, found.3))
  ]
]

-- the quotient that a text spells, or that it spells none
abbrev pub QuotientOrNot : List ℕ → Type 0
QuotientOrNot text = ((num : ℤ) × (den : ℤ) × SpellsQuotient text num den)
    ⊎ ((num den : ℤ) → SpellsQuotient text num den → ⊥)

module _ (text prefix back : List ℕ) (split : text ≡ prefix ++ 47 ∷ back)
    (first : HasNoSlash prefix)
  where
    -- what stands before and after the first slash isn't two numbers
    no_quotient : ((num den : ℤ) → SpellsWhole prefix num → SpellsWhole back den → pos 2 ≤ℤ den → ⊥)
        → (num den : ℤ) → SpellsQuotient text num den → ⊥
    no_quotient none num den (inl one) = search (arith, slash_differs, whole_no_slash)
    no_quotient none num den (inr (some, (prefix', back', split', above, below))) =
        let both = one_split prefix prefix' back back' first (whole_no_slash prefix' num above)
        (sym split ∙ split') in
        none num den (subst (λ t. SpellsWhole t num) (sym both.0) above)
        (subst (λ t. SpellsWhole t den) (sym both.1) below) some

    split_or_not : QuotientOrNot text
    split_or_not = elim (whole_or_not prefix) [
      | inl above ↦ elim (whole_or_not back) [
        | inl below ↦ by_lt_z (pos 1) below.0
            (λ some. inl (
              above.0,
              below.0,
              inr (
                omega (arith, ints, some),
                (prefix, back, split, above.1, below.1),
              ),
            ))
            (λ low. inr (no_quotient (λ num den spells spells' some.
            let same = one_whole back den below.0 spells' below.1 in
            omega (arith, ints, same, low))))
        | inr none ↦ inr (no_quotient (λ num den spells spells' some. none den spells'))
      ]
      | inr none ↦ inr (no_quotient (λ num den spells spells' some. none num spells))
    ]

pub quotient_or_not : (text : List ℕ) → QuotientOrNot text
quotient_or_not text = elim (slash_or_not text) [
  | inl none ↦ elim (whole_or_not text) [
    | inl one ↦ inl (one.0, pos 1, inl (refl, one.1))
    | inr other ↦ inr (alone none other)
  ]
  | inr found ↦ split_or_not text found.0 found.1 found.2 found.3
]
  where
    alone : HasNoSlash text → ((value : ℤ) → SpellsWhole text value → ⊥) → (num den : ℤ)
        → SpellsQuotient text num den → ⊥
    alone none other num den (inl one) = other num one.1
    alone none other num den (inr (some, (prefix, back, split, above, below))) =
        slash_differs text prefix back none split

-- ---- fractions

-- a fraction is in lowest terms or isn't
pub lowest_or_not : (num den : ℤ) → pos 1 ≤ℤ den → OrNot (IsLowest num den)
lowest_or_not num den some =
    let a = nat_abs num in
    let b = nat_abs den in
    let (some_divisor, greatest) = up_to_second a b (some_size den some) in
    elim (same_number (divisor_up_to b a b) 1) [
      | inl one ↦ inl (record { some_den = some; coprime = subst (IsGcd a b) one greatest })
      | inr other ↦ inr (λ lowest.
          let low = le_of_dvd (omega arith)
          (lowest.coprime.2 (divisor_up_to b a b) greatest.0 greatest.1) in
          other (omega (arith, low, some_divisor)))
    ]
  where
    some_size : (n : ℤ) → pos 1 ≤ℤ n → 0 < nat_abs n
    some_size (pos n) from = omega (arith, ints, from)
    some_size (negsuc n) from = absurd (omega (arith, ints, from))

-- what a text is as a fraction: refused, or a small quotient in lowest terms
abbrev pub FractionOrNot : List ℕ → Type 0
FractionOrNot text = ((flaw : Flaw) × IsRefusedFor text flaw) ⊎ ((num : ℤ) × (den : ℤ)
    × SpellsQuotient text num den × HaveSmallSizes num den × IsLowest num den)

pub fraction_or_not : (text : List ℕ) → FractionOrNot text
fraction_or_not text = elim (quotient_or_not text) [
  | inr none ↦ inl (Form, inl none)
  | inl found ↦ quotient found.0 found.1 found.2
]
  where
    quotient : (num den : ℤ) → SpellsQuotient text num den → FractionOrNot text
    quotient num den spells = elim (size_or_not (10 ^ 37) num) [
      | inr large ↦ inl (Large, (num, den, spells, λ small. large small.0))
      | inl small ↦ elim (size_or_not (10 ^ 37) den) [
        | inr large ↦ inl (Large, (num, den, spells, λ small. large small.1))
        | inl small' ↦ elim (lowest_or_not num den (quotient_some text num den spells)) [
          | inl lowest ↦ inr (num, den, spells, (small, small'), lowest)
          | inr other ↦ inl (Form, inr (num, den, spells, (small, small'), other))
        ]
      ]
    ]

-- which of four fails first, where each that is asked for holds or doesn't
judged : {Formed Known Fit Within : Type 0} → OrNot Formed → OrNot Known → (Known → OrNot Fit)
    → (Formed → OrNot Within) → (flaw : Option Flaw) × IsFirstFlaw Formed Known Fit Within flaw
judged formed known fit within = elim formed [
  | inr none ↦ (Some Form, none)
  | inl is ↦ elim known [
    | inr none ↦ (Some Unknown, (is, none))
    | inl named ↦ elim (fit named) [
      | inr none ↦ (Some Unfit, (is, named, none))
      | inl fits ↦ elim (within is) [
        | inr none ↦ (Some Large, (is, named, fits, none))
        | inl all ↦ (None, (is, named, fits, all))
      ]
    ]
  ]
]

module _ (circuit : Circuit) where
  -- the flaw of a word, if it has one
  abbrev Judged : Field → List ℕ → Type 0
  Judged field text = (flaw : Option Flaw) × WordHasFlaw circuit field text flaw

  -- what is always so
  sure : OrNot (Unit {0})
  sure = inl tt

  -- one of two fixed words
  either_or_not : (text one other : List ℕ) → OrNot ((text ≡ one) ⊎ (text ≡ other))
  either_or_not text one other = elim (same_text text one) [
    | inl first ↦ inl (inl first)
    | inr differs ↦ elim (same_text text other) [
      | inl second ↦ inl (inr second)
      | inr differs' ↦ inr (neither differs differs')
    ]
  ]
    where
      neither : (text ≡ one → ⊥) → (text ≡ other → ⊥) → (text ≡ one) ⊎ (text ≡ other) → ⊥
      neither differs differs' (inl is) = differs is
      neither differs differs' (inr is) = differs' is

  -- ---- numbers

  -- the text is that number's or isn't
  exactly_or_not : (text : List ℕ) (number : ℤ) → OrNot (SpellsWhole text number)
  exactly_or_not text number = elim (whole_or_not text) [
    | inr none ↦ inr (none number)
    | inl found ↦ elim (same_whole found.0 number) [
      | inl same ↦ inl (subst (SpellsWhole text) same found.1)
      | inr other ↦ inr (λ spells. other (one_whole text found.0 number found.1 spells))
    ]
  ]

  number_judged : (least most : ℕ) (text : List ℕ) → Judged (field.Number least most) text
  number_judged least most text = judged formed sure (λ known. sure)
      (λ is. by_lt_z (pos most) is.0
      (λ past. inr (λ within. let few = within is.0 is.1 in omega (arith, ints, few, past)))
      (λ few. inl (λ other spells.
      let same = one_whole text is.0 other is.1 spells in omega (arith, ints, same, few))))
    where
      formed : OrNot ((value : ℤ) × SpellsWhole text value × (pos least ≤ℤ value))
      formed = elim (whole_or_not text) [
        | inr none ↦ inr (λ formed. none formed.0 formed.1)
        | inl found ↦ by_lt_z found.0 (pos least)
            (λ low. inr (λ formed.
            let same = one_whole text found.0 formed.0 found.1 formed.1 in
            let from = formed.2 in
            omega (arith, ints, same, from, low)))
            (λ from. inl (found.0, found.1, from))
      ]

  counted_judged : (count most : ℕ) (text : List ℕ) → Judged (field.Counted count most) text
  counted_judged count most text = judged formed sure (λ known. sure)
      (λ is. elim (cases_lt most count) [
        | inl past ↦ inr (λ within. omega (arith, within, past))
        | inr few ↦ inl few
      ])
    where
      formed : OrNot ((1 ≤ count) × SpellsWhole text (pos count))
      formed = elim (cases_lt 0 count) [
        | inr none ↦ inr (λ formed. omega (arith, none, formed.0))
        | inl some ↦ elim (exactly_or_not text (pos count)) [
          | inr other ↦ inr (λ formed. other formed.1)
          | inl spells ↦ inl (some, spells)
        ]
      ]

  weight_judged : (text : List ℕ) → Judged field.Weight text
  weight_judged text = judged formed sure (λ known. sure)
      (λ is. elim (size_or_not (10 ^ 12) is.0) [
        | inl small ↦ inl (λ value spells.
            subst (IsBelow (10 ^ 12)) (one_whole text is.0 value is.1 spells) small)
        | inr large ↦ inr (λ within. large (within is.0 is.1))
      ])
    where
      formed : OrNot ((value : ℤ) × SpellsWhole text value)
      formed = elim (whole_or_not text) [
        | inr none ↦ inr (λ formed. none formed.0 formed.1)
        | inl found ↦ inl found
      ]

  -- ---- fractions

  -- a small quotient in lowest terms, as a number of steps
  whole_steps_judged : (over bound : ℤ) (text : List ℕ) (num den : ℤ) → SpellsQuotient text num den
      → HaveSmallSizes num den → IsLowest num den → Judged (field.Steps over bound) text
  whole_steps_judged over bound text num den spells small lowest =
      elim (same_whole (int_rem over den) (pos 0)) [
        | inr rest ↦ denoted (Some Unfit) (steps_unfit _ bound _ _ lowest rest)
        | inl none ↦
            let steps = num *ℤ int_div over den in
            by_lt_z steps bound (λ below. by_lt_z (pos 0) (steps +ℤ bound) (λ above. denoted None
            (steps_within _ _ _ _ lowest none (below, above))) (λ low. denoted (Some Large)
            (steps_past _ _ _ _ lowest none (λ both. both_past steps both.1 low)))) (λ past. denoted
            (Some Large) (steps_past _ _ _ _ lowest none (λ both. past_bound steps both.0 past)))
      ]
    where
      denoted : (flaw : Option Flaw) → HasStepsFlaw over bound num den flaw
          → Judged (field.Steps over bound) text
      denoted flaw has = (flaw, steps_denoted _ _ _ spells _ _ small lowest _ has circuit)

      both_past : (steps : ℤ) → pos 0 <ℤ (steps +ℤ bound) → (steps +ℤ bound) ≤ℤ pos 0 → ⊥
      both_past steps above low = omega (arith, ints, above, low)

      past_bound : (steps : ℤ) → steps <ℤ bound → bound ≤ℤ steps → ⊥
      past_bound steps below past = omega (arith, ints, below, past)

  steps_judged : (over bound : ℤ) (text : List ℕ) → Judged (field.Steps over bound) text
  steps_judged over bound text = elim (fraction_or_not text) [
    | inl refused ↦ (
      Some refused.0,
      steps_refused over bound text refused.0 refused.1 circuit,
    )
    | inr read ↦ whole_steps_judged over bound text read.0 read.1 read.2 read.3 read.4
  ]

  -- a quotient below 0
  negative_or_not : (text : List ℕ) → OrNot (IsNegativeQuotient text)
  negative_or_not text = elim (quotient_or_not text) [
    | inr none ↦ inr (λ negative. none negative.0 negative.1 negative.2)
    | inl found ↦ by_lt_z found.0 (pos 0)
        (λ below. inl (found.0, found.1, found.2, below))
        (λ above. inr (λ negative.
        let same = (one_quotient text found.0 found.1 negative.0 negative.1 found.2 negative.2).0 in
        let below = negative.3 in
        omega (arith, ints, same, below, above)))
  ]

  period_judged : (text : List ℕ) → Judged field.Period text
  period_judged text = elim (negative_or_not text) [
    | inl negative ↦ (Some Form, negative_refused text negative)
    | inr positive ↦ elim (fraction_or_not text) [
      | inl refused ↦ (
        Some refused.0,
        period_refused text refused.0 refused.1 positive circuit,
      )
      | inr read ↦ small_judged positive read.0 read.1 read.2 read.3 read.4
    ]
  ]
    where
      small_judged : (IsNegativeQuotient text → ⊥) → (num den : ℤ) → SpellsQuotient text num den
          → HaveSmallSizes num den → IsLowest num den → Judged field.Period text
      small_judged positive num den spells small lowest =
          let some = from_zero _ _ _ spells positive in
          by_lt_z num (pos (10 ^ 18))
          (λ below. by_lt_z (pos 4097) den
          (λ past. (
            Some Large,
            period_past _ _ _ spells circuit lowest some
                (λ both. let few = both.1 in omega (arith, ints, few, past)),
          )) (λ few. (None, period_within _ _ _ spells circuit lowest some (below, few))))
          (λ past. (
            Some Large,
            period_past _ _ _ spells circuit lowest some
                (λ both. let below = both.0 in omega (arith, ints, below, past)),
          ))

  slack_judged : (over bound : ℤ) (text : List ℕ) → Judged (field.Slack over bound) text
  slack_judged over bound text = elim (same_text text (codes "-")) [
    | inl dash ↦ (None, dash_plain over bound text dash circuit)
    | inr other ↦
        let (flaw, has) = steps_judged over bound text in
        (flaw, slack_denoted over bound text other flaw circuit has)
  ]

  -- ---- names

  -- a name is one of so many or isn't
  name_or_not : (name_of : ℕ → List ℕ) (count : ℕ) (text : List ℕ)
      → OrNot ((number : ℕ) × (number < count) × (name_of number ≡ text))
  name_or_not name_of count text =
      let names = map name_of (range_with_len 0 count) in
      at (position (bytes_eq text) names) (number_denoted name_of count text names refl)
    where
      at : (found : Option ℕ) → IsNumberOf name_of count text found
          → OrNot ((number : ℕ) × (number < count) × (name_of number ≡ text))
      at None none = inr none
      at (Some number) is = inl (number, is.0, is.1)

  register_or_not : (text : List ℕ) → OrNot (NamesRegister circuit text)
  register_or_not = name_or_not (register_name circuit) (length circuit.registers)

  signal_or_not : (text : List ℕ) → OrNot (NamesSignal circuit text)
  signal_or_not = name_or_not (signal_name circuit) (length circuit.signals)

  from_judged : (first : ℕ) (text : List ℕ) → Judged (field.From first) text
  from_judged first text = judged sure (register_or_not text)
      (λ is. elim (cases_lt is.0 first) [
        | inl before ↦ inr (λ fit.
            let from = fit is.0 is.1 is.2 in omega (arith, from, before))
        | inr from ↦ inl (λ other within same.
            let one = one_register circuit is.0 other is.1 within (is.2 ∙ sym same) in
            omega (arith, one, from))
      ]) (λ formed. sure)

  -- ---- words and lines

  word_judged : (due : Field) (text : List ℕ) → Judged due text
  word_judged (field.Word keyword) text = search (arith, judged, same_text, sure)
  word_judged field.Version text = search (arith, judged, either_or_not, sure)
  word_judged field.Kind text = search (arith, judged, either_or_not, sure)
  word_judged (field.Exactly number) text = search (arith, judged, exactly_or_not, sure)
  word_judged (field.Number least most) text = number_judged least most text
  word_judged (field.Counted count most) text = counted_judged count most text
  word_judged field.Weight text = weight_judged text
  word_judged field.Period text = period_judged text
  word_judged (field.Steps over bound) text = steps_judged over bound text
  word_judged (field.Slack over bound) text = slack_judged over bound text
  word_judged field.Register text = search (arith, judged, sure, register_or_not)
  word_judged (field.Named number) text = search (arith, judged, sure, register_or_not, same_text)
  word_judged (field.From first) text = from_judged first text
  word_judged field.Signal text = search (arith, judged, sure, signal_or_not)

  pub line_judged : (fields : List Field) (words : List (List ℕ))
      → (flaw : Option Flaw) × LineHasFlaw circuit fields words flaw
  line_judged [] [] = (None, (tt, tt, tt, tt))
  line_judged [] (word ∷ words) = (Some Form, λ each. each)
  line_judged (due ∷ fields) [] = (Some Form, λ each. each)
  line_judged (due ∷ fields) (word ∷ words) =
      let (first, has) = word_judged due word in
      let (second, has') = line_judged fields words in (
        sooner_flaw first second,
        line_first circuit due fields word words first second has has',
      )
