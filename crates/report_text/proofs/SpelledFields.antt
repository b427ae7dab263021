-- What each word of a line without a flaw is: the word of a value that its field admits. A line has
-- no flaw just where each of its words is one.
use Rattle.report_text.proofs.Vocabulary.{◌≡◌, ◌^◌, ℤ, pos, negsuc, ◌*ℤ◌, ◌≤ℤ◌, arith, ◌<◌, ◌≤◌, ◌⊎◌, ℕ, nat_abs, Bool, true, false, inl, inr, List, [], ◌∷◌, length, if◌then◌else◌, Option, Some, None, codes, drop, get_or, refl, sym, ap, ◌∙◌, subst, signed_decimal, AllByRecursion, one-le-mul, ints, Fraction, IsBelow, fraction_text, quotient_text, IsLowest, SpellsWhole, HaveSmallSizes, few_digits, lowest_sizes, no_fraction_minus, one_decimal, one_fraction_text, one_number_text, one_quotient_text, one_whole, quotient_some, quotient_text_spelled, Tech, IsSmallPeriod, Circuit, Version, First, Second, register_name, signal_name, Words, slack_text, IsSmallSlack, one_register, one_signal, scale_in, IsSmallScale, Field, AreFewSteps, IsFractionForm, IsWholeSteps, LineHasFlaw, NamesRegister, WordHasFlaw, version_text}
use Rattle.std.proofs.lemmas.Nat.{mul-le}
use Rattle.std.proofs.Props.{props}
use Rattle.report_text.specs.LineFields as field
use Rattle.report_text.proofs.FractionFlaws.{dash_plain, period_within, read_quotient_is, steps_denoted, steps_small}
use Rattle.report_text.proofs.NumberWords.{below_bound, denoted_steps, smaller, spelled_steps, spelled_whole, whole_word}

-- eight million times a period's denominator and a wire's numerator
grid_within : (den wire : ℤ) → pos 1 ≤ℤ den → den ≤ℤ pos 4097 → pos 1 ≤ℤ wire
    → wire ≤ℤ pos 1000000 → (pos 1 ≤ℤ (pos (10 ^ 6) *ℤ (pos 8 *ℤ den *ℤ wire))) × IsBelow (10 ^ 37)
    (pos (10 ^ 6) *ℤ (pos 8 *ℤ den *ℤ wire))
grid_within (pos den) (pos wire) some few some' few' = search (arith, ints, one-le-mul, mul-le)
grid_within (negsuc den) wire some few some' few' = absurd (omega (arith, ints))
grid_within den (negsuc wire) some few some' few' = absurd (omega (arith, ints))

-- the steps of a report of a small period are few
pub scale_small : (tech : Tech) (period : Fraction) → IsSmallPeriod period
    → IsSmallScale (scale_in tech period)
scale_small tech period small =
    let grid = grid_within period.den tech.wire_num period.lowest.some_den small.low
    tech.valid.wire_num_within.above tech.valid.wire_num_within.below in
    let some = period.lowest.some_den in
    let low = small.low in record {
      some_den = some;
      small_den = record {
        above = omega (arith, ints, some);
        below = omega (arith, ints, low);
      };
      some_grid = grid.0;
      small_grid = record { above = grid.1.above; below = grid.1.below };
    }

-- a fraction of its parts
fraction_of : (parts : ℤ × ℤ) → IsLowest parts.0 parts.1 → Fraction
fraction_of parts lowest = record { num = parts.0; den = parts.1; lowest = lowest }

one_lowest : (parts : ℤ × ℤ) → IsProp (IsLowest parts.0 parts.1)
one_lowest parts = hlevel props

-- fractions with the same parts are one
parts_same : (parts others : ℤ × ℤ) → parts ≡ others → (lowest : IsLowest parts.0 parts.1)
    (lowest' : IsLowest others.0 others.1) → fraction_of parts lowest ≡ fraction_of others lowest'
unfolding fraction_of
parts_same parts others same lowest lowest' =
    subst (λ (p : ℤ × ℤ). (l : IsLowest p.0 p.1) → fraction_of parts lowest ≡ fraction_of p l) same
    (λ l. ap (fraction_of parts) (one_lowest parts lowest l)) lowest'

pub same_fraction : (fraction other : Fraction) → fraction.num ≡ other.num
    → fraction.den ≡ other.den → fraction ≡ other
unfolding fraction_of
same_fraction fraction other num den =
    parts_same _ _ (λ i. (num i, den i)) fraction.lowest other.lowest

-- what the word of a field tells
abbrev pub Value : Field → Type 0
Value field.Version = Version
Value field.Kind = Bool
Value (field.Number least most) = ℕ
Value field.Weight = ℤ
Value field.Period = Fraction
Value (field.Steps over bound) = ℤ
Value (field.Slack over bound) = Option Fraction
Value field.Register = ℕ
Value (field.From first) = ℕ
Value field.Signal = ℕ
Value due = Unit {0}

-- its word
abbrev pub spell : Circuit → (due : Field) → Value due → List ℕ
spell circuit (field.Word keyword) value = keyword
spell circuit field.Version version = version_text version
spell circuit field.Kind setup = if setup then codes "setup" else codes "hold"
spell circuit (field.Exactly number) value = signed_decimal (pos number)
spell circuit (field.Number least most) number = signed_decimal (pos number)
spell circuit (field.Counted count most) value = signed_decimal (pos count)
spell circuit field.Weight weight = signed_decimal weight
spell circuit field.Period period = fraction_text period.num period.den
spell circuit (field.Steps over bound) steps = quotient_text steps over
spell circuit (field.Slack over bound) slack = slack_text slack
spell circuit field.Register register = register_name circuit register
spell circuit (field.Named register) value = register_name circuit register
spell circuit (field.From first) register = register_name circuit register
spell circuit field.Signal number = signal_name circuit number

-- the field admits it
abbrev pub Admits : Circuit → (due : Field) → Value due → Type 0
Admits circuit (field.Number least most) number = (least ≤ number) × (number ≤ most)
Admits circuit (field.Counted count most) value = (1 ≤ count) × (count ≤ most)
Admits circuit field.Weight weight = IsBelow (10 ^ 12) weight
Admits circuit field.Period period = IsSmallPeriod period
Admits circuit (field.Steps over bound) steps = IsBelow (nat_abs bound) steps
Admits circuit (field.Slack over bound) slack = IsSmallSlack over slack
Admits circuit field.Register register = register < length circuit.registers
Admits circuit (field.Named register) value = NamesRegister circuit (register_name circuit register)
Admits circuit (field.From first) register =
    (first ≤ register) × (register < length circuit.registers)
Admits circuit field.Signal number = number < length circuit.signals
Admits circuit due value = Unit {0}

-- the word is that of a value that the field admits
abbrev IsSpelled : Circuit → Field → List ℕ → Type 0
IsSpelled circuit due word =
    (value : Value due) × Admits circuit due value × (word ≡ spell circuit due value)

-- the values of a line, field by field
abbrev pub Values : List Field → Type 0
Values [] = Unit {0}
Values (due ∷ fields) = Value due × Values fields

abbrev pub spell_line : Circuit → (fields : List Field) → Values fields → Words
spell_line circuit [] values = []
spell_line circuit (due ∷ fields) values =
    spell circuit due values.0 ∷ spell_line circuit fields values.1

abbrev pub AdmitsEach : Circuit → (fields : List Field) → Values fields → Type 0
AdmitsEach circuit [] values = Unit {0}
AdmitsEach circuit (due ∷ fields) values =
    Admits circuit due values.0 × AdmitsEach circuit fields values.1

-- the numbers of the field are small enough for their words
abbrev pub IsSmallField : Field → Type 0
IsSmallField (field.Exactly number) = number < 10 ^ 37
IsSmallField (field.Number least most) = most < 10 ^ 37
IsSmallField (field.Counted count most) = most < 10 ^ 37
IsSmallField (field.Steps over (pos bound)) =
    (pos 1 ≤ℤ over) × IsBelow (10 ^ 37) over × (bound ≤ 10 ^ 37)
IsSmallField (field.Steps over (negsuc bound)) = ⊥
IsSmallField (field.Slack over bound) =
    (pos 1 ≤ℤ over) × IsBelow (10 ^ 37) over × (bound ≡ pos (10 ^ 20))
IsSmallField due = Unit {0}

-- ---- numbers

pub small_number : (number : ℕ) → number < 10 ^ 37 → IsBelow (10 ^ 37) (pos number)
small_number number less = record { above = omega (arith, ints); below = omega (arith, ints, less) }

-- a number below a bound is below a greater one
pub size_below : (bound : ℕ) (number : ℤ) → bound ≤ 10 ^ 37 → IsBelow bound number
    → IsBelow (10 ^ 37) number
size_below bound number less small = search (arith, ints)

-- a number of a range
number_spelled : (least most : ℕ) (word : List ℕ) → most < 10 ^ 37 → (value : ℤ)
    → SpellsWhole word value → pos least ≤ℤ value → value ≤ℤ pos most
    → (number : ℕ) × ((least ≤ number) × (number ≤ most)) × (word ≡ signed_decimal (pos number))
number_spelled least most word small (pos n) spells low high =
    let few : n ≤ most = omega (arith, ints, high) in (
      n,
      (omega (arith, ints, low), few),
      whole_word word (pos n) (small_number n (omega (arith, few, small))) spells,
    )
number_spelled least most word small (negsuc n) spells low high = search (arith, ints)

-- the numbers of a small period are small
pub small_period : (period : Fraction) → IsSmallPeriod period → HaveSmallSizes period.num period.den
small_period period small = search (arith, ints)

-- ---- slacks

-- a word without a flaw is that of a slack
slack_spelled : (over : ℤ) (word : List ℕ)
    → (word ≡ codes "-") ⊎ ((num : ℤ) × (den : ℤ) × IsFractionForm word num den)
    → IsWholeSteps over word → AreFewSteps over (pos (10 ^ 20)) word
    → (slack : Option Fraction) × IsSmallSlack over slack × (word ≡ slack_text slack)
slack_spelled over word (inl dash) whole few = (None, tt, dash)
slack_spelled over word (inr (num, den, form)) whole few =
    let (small, each) = few num den form.0 in
    let (steps, are) = whole num den form.0 small in (
      Some (record { num = num; den = den; lowest = form.1 small }),
      (steps, are, below_bound (10 ^ 20) steps (each steps are).0 (each steps are).1),
      quotient_text_spelled word num den (few_digits num small.0) (few_digits den small.1) form.0,
    )

-- the parts of a small slack are small
pub small_slack : (over : ℤ) (slack : Fraction) → pos 1 ≤ℤ over → IsBelow (10 ^ 37) over
    → IsSmallSlack over (Some slack) → HaveSmallSizes slack.num slack.den
small_slack over slack some low small =
    let sizes = lowest_sizes small.0 over slack some small.1 in (
      smaller _ _ _ sizes.0 (size_below _ _ (omega arith) small.2),
      smaller _ _ over sizes.1 low,
    )

-- ---- each word

version_spelled : (word : List ℕ) → (word ≡ codes "1") ⊎ (word ≡ codes "2")
    → (version : Version) × Unit {0} × (word ≡ version_text version)
version_spelled word (inl first) = (First, tt, first)
version_spelled word (inr second) = (Second, tt, second)

kind_spelled : (word : List ℕ) → (word ≡ codes "setup") ⊎ (word ≡ codes "hold")
    → (setup : Bool) × Unit {0} × (word ≡ (if setup then codes "setup" else codes "hold"))
kind_spelled word (inl setup) = (true, tt, setup)
kind_spelled word (inr hold) = (false, tt, hold)

spelled : (circuit : Circuit) (due : Field) (word : List ℕ) → IsSmallField due
    → WordHasFlaw circuit due word None → IsSpelled circuit due word
spelled circuit (field.Word keyword) word small (formed, known, fit, within) = (tt, tt, formed)
spelled circuit field.Version word small (formed, known, fit, within) = version_spelled word formed
spelled circuit field.Kind word small (formed, known, fit, within) = kind_spelled word formed
spelled circuit (field.Exactly number) word small (formed, known, fit, within) =
    (tt, tt, whole_word word (pos number) (small_number number small) formed)
spelled circuit (field.Number least most) word small ((value, spells, low), known, fit, within) =
    number_spelled least most word small value spells low (within value spells)
spelled circuit (field.Counted count most) word small ((some, spells), known, fit, within) = (
  tt,
  (some, within),
  whole_word word (pos count) (small_number count (omega (arith, within, small))) spells,
)
spelled circuit field.Weight word small ((value, spells), known, fit, within) =
    search (arith, whole_word)
spelled circuit field.Period word small ((num, den, form, from), known, fit, within) =
    let (low, few) = within num den form.0 in
    let some = quotient_some word num den form.0 in
    let sizes : HaveSmallSizes num den = (
      record { above = omega (arith, ints, from); below = omega (arith, ints, low) },
      record { above = omega (arith, ints, some); below = omega (arith, ints, few) },
    ) in (
      record { num = num; den = den; lowest = form.1 sizes },
      record { from_zero = from; small = low; low = few },
      quotient_text_spelled word num den (few_digits num sizes.0) (few_digits den sizes.1) form.0,
    )
spelled circuit (field.Steps over (pos bound)) word small ((num, den, form), known, fit, within) =
    denoted_steps word over num den bound small.0 form fit within
spelled circuit (field.Steps over (negsuc bound)) word small plain = absurd small
spelled circuit (field.Slack over bound) word small (formed, known, fit, within) =
    slack_spelled _ _ formed fit (subst (λ b. AreFewSteps over b word) small.2 within)
spelled circuit field.Register word small (formed, (register, below, name), fit, within) =
    (register, below, sym name)
spelled circuit (field.Named number) word small (formed, (register, below, name), fit, within) =
    (tt, (register, below, name ∙ sym fit), sym fit)
spelled circuit (field.From first) word small (formed, (register, below, name), fit, within) =
    (register, (fit register below name, below), sym name)
spelled circuit field.Signal word small (formed, (number, below, name), fit, within) = search arith

-- and the way back
module _ (circuit : Circuit) where
  number_plain : (least most number : ℕ) → most < 10 ^ 37 → least ≤ number → number ≤ most
      → WordHasFlaw circuit (field.Number least most) (signed_decimal (pos number)) None
  number_plain least most number small low high =
      let short = small_number number (omega (arith, high, small)) in
      let spells = spelled_whole (pos number) short in (
        (pos number, spells, omega (arith, ints, low)),
        tt,
        tt,
        λ value other.
            subst (λ v. v ≤ℤ pos most)
            (one_whole (signed_decimal (pos number)) (pos number) value spells other)
            (omega (arith, ints, high)),
      )

  weight_plain : (weight : ℤ) → IsBelow (10 ^ 12) weight
      → WordHasFlaw circuit field.Weight (signed_decimal weight) None
  weight_plain weight below =
      let above = below.above in
      let less = below.below in
      let spells = spelled_whole weight (size_below (10 ^ 12) weight (omega arith) below) in (
        (weight, spells),
        tt,
        tt,
        λ value other.
            subst (IsBelow (10 ^ 12))
            (one_whole (signed_decimal weight) weight value spells other)
            (record { above = above; below = less }),
      )

  period_plain : (period : Fraction) → IsSmallPeriod period
      → WordHasFlaw circuit field.Period (fraction_text period.num period.den) None
  period_plain period small = search (arith, small_period, period_within, read_quotient_is)

  steps_plain : (over : ℤ) (bound : ℕ) (steps : ℤ) → pos 1 ≤ℤ over
      → IsBelow (10 ^ 37) over → bound ≤ 10 ^ 37 → IsBelow bound steps
      → WordHasFlaw circuit (field.Steps over (pos bound)) (quotient_text steps over) None
  steps_plain over bound steps some small less below =
      let (num, den, has) =
      spelled_steps over steps some small (size_below bound steps less below) in
      let lowest = has.form.1 has.small in
      steps_denoted (quotient_text steps over) num den has.form.0 over (pos bound) has.small lowest
      None (steps_small over num den bound steps lowest has.are below) circuit

  slack_plain : (over : ℤ) (slack : Option Fraction) → pos 1 ≤ℤ over → IsBelow (10 ^ 37) over
      → IsSmallSlack over slack
      → WordHasFlaw circuit (field.Slack over (pos (10 ^ 20))) (slack_text slack) None
  slack_plain over None some low small = dash_plain over (pos (10 ^ 20)) (codes "-") refl circuit
  slack_plain over (Some slack) some low (steps, is, below) =
      let sizes = small_slack _ slack some low (steps, is, below) in
      let spells = read_quotient_is _ slack sizes refl in
      let has = steps_denoted _ slack.num slack.den spells over _ sizes slack.lowest None
      (steps_small over _ _ _ _ slack.lowest is below) circuit in
      (inr has.0, tt, has.2, has.3)

  plain : (due : Field) (value : Value due) → IsSmallField due → Admits circuit due value
      → WordHasFlaw circuit due (spell circuit due value) None
  plain (field.Word keyword) value small is = (refl, tt, tt, tt)
  plain field.Version First small is = (inl refl, tt, tt, tt)
  plain field.Version Second small is = (inr refl, tt, tt, tt)
  plain field.Kind true small is = (inl refl, tt, tt, tt)
  plain field.Kind false small is = (inr refl, tt, tt, tt)
  plain (field.Exactly number) value small is = search (arith, spelled_whole, small_number)
  plain (field.Number least most) number small is = search (arith, number_plain)
  plain (field.Counted count most) value small (some, few) = (
    (some, spelled_whole (pos count) (small_number count (omega (arith, few, small)))),
    tt,
    tt,
    few,
  )
  plain field.Weight weight small below = weight_plain weight below
  plain field.Period period small low = period_plain period low
  plain (field.Steps over (pos bound)) steps small below = search (arith, steps_plain)
  plain (field.Steps over (negsuc bound)) steps small below = absurd small
  plain (field.Slack over bound) slack small low =
      subst (λ b. WordHasFlaw circuit (field.Slack over b) (slack_text slack) None) (sym small.2)
      (slack_plain over slack small.0 small.1 low)
  plain field.Register register small below = (tt, (register, below, refl), tt, tt)
  plain (field.Named register) value small named = (tt, named, refl, tt)
  plain (field.From first) register small (from, below) = search (arith, one_register)
  plain field.Signal number small below = (tt, (number, below, refl), tt, tt)

  -- ---- a value is determined by its word

  one_fraction : (fraction other : Fraction) → HaveSmallSizes fraction.num fraction.den
      → HaveSmallSizes other.num other.den
      → fraction_text fraction.num fraction.den ≡ fraction_text other.num other.den
      → fraction ≡ other
  one_fraction fraction other small small' same =
      let (num, den) = one_fraction_text fraction.num fraction.den other.num other.den
      (few_digits fraction.num small.0) (few_digits fraction.den small.1)
      (few_digits other.num small'.0) (few_digits other.den small'.1) same in
      same_fraction fraction other num den

  one_slack : (over : ℤ) (slack other : Option Fraction) → pos 1 ≤ℤ over
      → IsBelow (10 ^ 37) over → IsSmallSlack over slack → IsSmallSlack over other
      → slack_text slack ≡ slack_text other → slack ≡ other
  one_slack over None None some low small small' same = refl
  one_slack over None (Some other) some low small small' same =
      absurd (no_fraction_minus other.num other.den
      (few_digits other.num (small_slack over other some low small').0) (sym same))
  one_slack over (Some slack) None some low small small' same =
      absurd (no_fraction_minus slack.num slack.den
      (few_digits slack.num (small_slack over slack some low small).0) same)
  one_slack over (Some slack) (Some other) some low small small' same =
      search (arith, one_fraction, small_slack)

  pub one_value : (due : Field) (value other : Value due) → IsSmallField due
      → Admits circuit due value → Admits circuit due other
      → spell circuit due value ≡ spell circuit due other → value ≡ other
  one_value field.Version First First small is is' same = refl
  one_value field.Version Second Second small is is' same = refl
  one_value field.Version value other small is is' same = search arith
  one_value field.Kind true true small is is' same = refl
  one_value field.Kind false false small is is' same = refl
  one_value field.Kind value other small is is' same = search arith
  one_value (field.Number least most) value other small is is' same = search (arith, one_decimal)
  one_value field.Weight value other small is is' same = search (arith, one_number_text)
  one_value field.Period value other small is is' same = search (arith, one_fraction, small_period)
  one_value (field.Steps over (pos bound)) value other small is is' same =
      search (arith, one_quotient_text, few_digits, size_below)
  one_value (field.Steps over (negsuc bound)) value other small is is' same = absurd small
  one_value (field.Slack over bound) value other small is is' same = search (arith, one_slack)
  one_value field.Register value other small is is' same = search (arith, one_register)
  one_value (field.From first) value other small is is' same = search (arith, one_register)
  one_value field.Signal value other small is is' same = search (arith, one_signal)
  one_value (field.Word keyword) value other small is is' same = refl
  one_value (field.Exactly number) value other small is is' same = refl
  one_value (field.Counted count most) value other small is is' same = refl
  one_value (field.Named register) value other small is is' same = refl

  -- so are those of a line
  pub one_values : (fields : List Field) (values others : Values fields)
      → AllByRecursion IsSmallField fields → AdmitsEach circuit fields values
      → AdmitsEach circuit fields others
      → spell_line circuit fields values ≡ spell_line circuit fields others → values ≡ others
  one_values [] values others small is is' same = refl
  one_values (due ∷ fields) values others small is is' same =
      let first = one_value due values.0 others.0 small.0 is.0 is'.0
      (ap (λ (words : Words). get_or words 0 []) same) in
      let more = one_values fields values.1 others.1 small.1 is.1 is'.1
      (ap (λ (words : Words). drop 1 words) same) in
      λ i. (first i, more i)

  -- ---- the line

  -- the words are those of values that the fields admit
  pub record Tells (fields : List Field) (words : Words) : Type 0 where
    pub values : Values fields
    pub admitted : AdmitsEach circuit fields values
    pub are : words ≡ spell_line circuit fields values

  -- words without a flaw are
  pub line_spelled : (fields : List Field) (words : Words) → AllByRecursion IsSmallField fields
      → LineHasFlaw circuit fields words None → Tells fields words
  line_spelled [] [] small line = record { values = tt; admitted = tt; are = refl }
  line_spelled [] (word ∷ words) small line = absurd line.0
  line_spelled (due ∷ fields) [] small line = absurd line.0
  line_spelled (due ∷ fields) (word ∷ words) small (formed, known, fit, within) =
      let (value, admitted, is) = spelled circuit due word small.0
      (formed.0, known.0, fit.0, within.0) in
      let more = line_spelled fields words small.1 (formed.1, known.1, fit.1, within.1) in
      record {
        values = (value, more.values);
        admitted = (admitted, more.admitted);
        are = λ i. is i ∷ more.are i;
      }

  -- and such words have none
  pub line_plain : (fields : List Field) (words : Words) → AllByRecursion IsSmallField fields
      → Tells fields words → LineHasFlaw circuit fields words None
  line_plain fields words small line =
      subst (λ ws. LineHasFlaw circuit fields ws None) (sym line.are)
      (each fields line.values small line.admitted)
    where
      each : (fields : List Field) (values : Values fields) → AllByRecursion IsSmallField fields
          → AdmitsEach circuit fields values
          → LineHasFlaw circuit fields (spell_line circuit fields values) None
      each [] values small admitted = (tt, tt, tt, tt)
      each (due ∷ fields) values small admitted =
          let (formed, known, fit, within) = each fields values.1 small.1 admitted.1 in
          let (formed', known', fit', within') = plain due values.0 small.0 admitted.0 in
          ((formed', formed), (known', known), (fit', fit), (within', within))

  -- as those of a form's values have
  pub values_plain : (fields : List Field) (values : Values fields)
      → AllByRecursion IsSmallField fields → AdmitsEach circuit fields values
      → LineHasFlaw circuit fields (spell_line circuit fields values) None
  values_plain fields values small admitted = search (arith, line_plain)
