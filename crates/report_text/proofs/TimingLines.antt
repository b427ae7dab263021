-- A line of the timing without a flaw is that of a value, and the line of a value within the bounds
-- has no flaw.
use Rattle.report_text.proofs.Vocabulary.{fields_of, if◌then◌else◌, ℤ, ◌≡◌, ◌<◌, ◌≤◌, ◌-◌, ◌^◌, ℕ, zero, suc, pos, Bool, true, false, cond, List, [], ◌∷◌, All, map, replicate, length, Option, Some, None, codes, refl, sym, ap, ◌∙◌, subst, arith, false_from_ne_true, ints, length-map, All-cons, All-nil, bytes_eq-Decides, signed_decimal, AllByRecursion, bytes_eq, Fraction, few_digits, no_fraction_minus, one_number_text, Circuit, Constraint, Version, First, Second, Lead, Zero, Tight, IsBelow, Words, constraint_line, count_line, line_for, period_line, register_line, IsBetweenRegisters, HasSmallWeight, LeadsAmong, IsSmallLead, lead_line, path_line, signal_name, version_line, IsSmallPeriod, AreSmallSlacks, Field, Scale, Timed, LineHasFlaw, constraint_fields, is_word, IsSmallCount, period_shown_line, IsFlawless, DenotesConstraint, DenotesLead, DenotesPath, IsSmallScale, DenotesTimed}
use Rattle.std.proofs.lemmas.Fmt.{decimal_digit}
use Rattle.report_text.specs.LineFields as field
use Rattle.report_text.specs.LineForms as form
use Rattle.report_text.proofs.ScanLemmas.{constraint_read, path_read, version_read}
use Rattle.report_text.proofs.SpelledFields.{AdmitsEach, IsSmallField, Tells, Values, line_plain, line_spelled, small_number, spell_line, values_plain}

-- ---- the first lines

abbrev period_fields : List Field
period_fields = field.Word (codes "period") ∷ field.Period ∷ []

-- the fields of a cycle's count, and of what shows the period, by whether the floor does
abbrev cycle_fields : List Field
cycle_fields = field.Word (codes "cycle") ∷ field.Number 1 9999 ∷ []

abbrev pub shown_fields : (floor : Bool) → List Field
shown_fields floor = cond floor (field.Word (codes "floor") ∷ []) cycle_fields

module _ (circuit : Circuit) (scale : Scale) where
  pub version_found : (words : Words) → IsFlawless circuit scale form.Version words
      → (version : Version) × words ≡ version_line version
  version_found words flawless = search (arith, line_spelled, version_read)

  pub version_plain : (version : Version)
      → IsFlawless circuit scale form.Version (version_line version)
  version_plain First = search (arith, values_plain)
  version_plain Second = search (arith, values_plain)

  pub period_found : (words : Words) → IsFlawless circuit scale form.Period words
      → (period : Fraction) × ((words ≡ period_line period) × IsSmallPeriod period)
  period_found words flawless =
      let line = line_spelled circuit period_fields words (tt, (tt, tt)) flawless in
      (line.values.1.0, (line.are, line.admitted.1.0))

  pub period_plain : (period : Fraction) → IsSmallPeriod period
      → IsFlawless circuit scale form.Period (period_line period)
  period_plain period small =
      values_plain circuit period_fields (tt, (period, tt)) (tt, (tt, tt)) (tt, (small, tt))

  pub show_found : (words : Words) → IsFlawless circuit scale form.Show words
      → (count : Option ℕ) × ((words ≡ period_shown_line count) × IsSmallCount count)
  show_found words flawless = at (is_word words 0 (codes "floor")) flawless
    where
      at : (floor : Bool) → LineHasFlaw circuit (shown_fields floor) words None
          → (count : Option ℕ) × ((words ≡ period_shown_line count) × IsSmallCount count)
      at true flawless = search (arith, line_spelled)
      at false flawless =
          let line = line_spelled circuit cycle_fields words (tt, (omega arith, tt)) flawless in
          (Some line.values.1.0, (line.are, (line.admitted.1.0.0, line.admitted.1.0.1)))

  pub show_plain : (count : Option ℕ) → IsSmallCount count
      → IsFlawless circuit scale form.Show (period_shown_line count)
  show_plain None small = values_plain circuit (shown_fields true) (tt, tt) (tt, tt) (tt, tt)
  show_plain (Some count) small = values_plain circuit cycle_fields (tt, (count, tt))
      (tt, (omega arith, tt)) (tt, (small, tt))

  -- how many lines follow: the words are just these
  pub count_found : (keyword : List ℕ) (count : ℕ) (words : Words) → count < 10 ^ 37
      → IsFlawless circuit scale (form.Count keyword count) words
      → words ≡ count_line keyword count
  count_found keyword count words less flawless =
      (line_spelled circuit (field.Word keyword ∷ field.Exactly count ∷ []) words
      (tt, (less, tt)) flawless).are

  pub count_plain : (keyword : List ℕ) (count : ℕ) → count < 10 ^ 37
      → IsFlawless circuit scale (form.Count keyword count)
      (count_line keyword count)
  count_plain keyword count less =
      values_plain circuit (field.Word keyword ∷ field.Exactly count ∷ []) (tt, (tt, tt))
      (tt, (less, tt)) (tt, (tt, tt))

-- ---- a constraint

small_constraint : AllByRecursion IsSmallField constraint_fields
small_constraint = (tt, (tt, (tt, (tt, tt))))

-- what the values of a constraint's words say
constraint_of : (circuit : Circuit) (values : Values constraint_fields)
    → AdmitsEach circuit constraint_fields values → (constraint : Constraint)
    × DenotesConstraint circuit (spell_line circuit constraint_fields values) constraint
constraint_of circuit (true, values) (kind, (launches, (captures, (small, end)))) =
    (_, constraint_read true refl launches captures small)
constraint_of circuit (false, values) (kind, (launches, (captures, (small, end)))) =
    (_, constraint_read false refl launches captures small)

pub constraint_found : (circuit : Circuit) (scale : Scale) (words : Words)
    → IsFlawless circuit scale form.Constraint words
    → (constraint : Constraint) × DenotesConstraint circuit words constraint
constraint_found circuit scale words flawless =
    let line = line_spelled circuit constraint_fields words small_constraint flawless in
    let (constraint, says) = constraint_of circuit line.values line.admitted in
    (constraint, subst (λ ws. DenotesConstraint circuit ws constraint) (sym line.are) says)

-- the values of a constraint's words
abbrev pub constraint_values : (setup : Bool) (tail head : ℕ) (weight : ℤ)
    → Values constraint_fields
constraint_values setup tail head weight =
    (setup, (cond setup tail head, (cond setup head tail, (weight, tt))))

pub constraint_told : (circuit : Circuit) (constraint : Constraint)
    → IsBetweenRegisters (length circuit.registers) constraint → HasSmallWeight constraint
    → let values = constraint_values constraint.setup constraint.tail constraint.head
    constraint.weight in AdmitsEach circuit constraint_fields values
    × (line_for circuit constraint ≡ spell_line circuit constraint_fields values)
constraint_told circuit constraint between small = at constraint.setup
  where
    at : (setup : Bool) → let values = constraint_values setup constraint.tail constraint.head
        constraint.weight in AdmitsEach circuit constraint_fields values × ((if setup
        then constraint_line (codes "setup") circuit constraint.tail constraint.head
        constraint.weight
        else constraint_line (codes "hold") circuit constraint.head constraint.tail
        constraint.weight) ≡ spell_line circuit constraint_fields values)
    at true = ((tt, (between.tail, (between.head, (small, tt)))), refl)
    at false = ((tt, (between.head, (between.tail, (small, tt)))), refl)

pub constraint_plain : (circuit : Circuit) (scale : Scale) (constraint : Constraint)
    → IsBetweenRegisters (length circuit.registers) constraint → HasSmallWeight constraint
    → IsFlawless circuit scale form.Constraint (line_for circuit constraint)
constraint_plain circuit scale constraint between small =
    let (admitted, are) = constraint_told circuit constraint between small in
    line_plain circuit constraint_fields (line_for circuit constraint) small_constraint
    (record { values = _; admitted = admitted; are = are })

-- ---- a lead

-- its fields, with a constraint, and by whether it has none
abbrev tight_fields : List Field
tight_fields = field.Word (codes "lead") ∷ field.Number 1 9999 ∷ constraint_fields

abbrev pub led_fields : (first : Bool) → List Field
led_fields first = cond first (field.Word (codes "lead") ∷ field.Word (codes "0") ∷ []) tight_fields

small_tight : AllByRecursion IsSmallField tight_fields
small_tight = (tt, (omega arith, small_constraint))

pub lead_found : (circuit : Circuit) (scale : Scale) (words : Words)
    → IsFlawless circuit scale form.Lead words → (lead : Lead) × DenotesLead circuit words lead
lead_found circuit scale words flawless = at (is_word words 1 (codes "0")) flawless
  where
    at : (zero : Bool) → LineHasFlaw circuit (led_fields zero) words None
        → (lead : Lead) × DenotesLead circuit words lead
    at true flawless = search (arith, line_spelled)
    at false flawless =
        let line = line_spelled circuit tight_fields words small_tight flawless in
        let (some, few) = line.admitted.1.0 in
        let depth = line.values.1.0 in
        let (constraint, says) = constraint_of circuit line.values.1.1 line.admitted.1.1 in (
          Tight depth constraint,
          record {
            line = line.are ∙ ap (λ ws. codes "lead" ∷ signed_decimal (pos depth) ∷ ws) says.line;
            registers = says.registers;
            small = (some, few, says.weight);
          },
        )

-- the digits of a number above 0 aren't those of 0
not_zero : (number : ℕ) → 1 ≤ number → number ≤ 9999
    → bytes_eq (signed_decimal (pos number)) (codes "0") ≡ false
not_zero number some few =
    false_from_ne_true (bytes_eq (signed_decimal (pos number)) (codes "0"))
    (λ same.
    let is = one_number_text (pos number) (pos 0) (omega (arith, few)) (omega arith)
    ((bytes_eq-Decides (signed_decimal (pos number)) (codes "0")).0 same
    ∙ sym (decimal_digit 0 (omega arith))) in
    omega (arith, ints, is, some))

pub lead_plain : (circuit : Circuit) (scale : Scale) (lead : Lead)
    → LeadsAmong (length circuit.registers) lead → IsSmallLead lead
    → IsFlawless circuit scale form.Lead (lead_line circuit lead)
lead_plain circuit scale Zero among small = search (arith, values_plain)
lead_plain circuit scale (Tight depth constraint) among (some, few, weight) =
    let line : Words = lead_line circuit (Tight depth constraint) in
    let (admitted, are) = constraint_told circuit constraint among weight in
    subst (λ zero. LineHasFlaw circuit (led_fields zero) line None)
    (sym (not_zero depth some few)) (line_plain circuit tight_fields line small_tight (record {
      values = (tt, (depth, _));
      admitted = (tt, ((some, few), admitted));
      are = ap (λ ws. codes "lead" ∷ signed_decimal (pos depth) ∷ ws) are;
    }))

-- ---- a register

small_register : (circuit : Circuit) (scale : Scale) (register : ℕ) → IsSmallScale scale
    → AllByRecursion IsSmallField (fields_of circuit scale (form.Register register) [])
small_register circuit scale register small = search (arith, IsSmallField)

pub timed_found : (circuit : Circuit) (scale : Scale) (register : ℕ) (words : Words)
    → IsSmallScale scale → IsFlawless circuit scale (form.Register register) words
    → (timed : Timed) × DenotesTimed circuit scale register words timed
timed_found circuit scale register words small flawless =
    let line = line_spelled circuit (fields_of circuit scale (form.Register register) []) words
    (small_register circuit scale register small) flawless in
    let (arrival, (setup, (hold, _))) = line.values.1 in
    let (below, (setup_small, (hold_small, _))) = line.admitted.1 in (
      record { arrival = arrival; slack = record { setup = setup; hold = hold } },
      record {
        line = line.are;
        small = below;
        slacks = record { setup = setup_small; hold = hold_small };
      },
    )

pub register_plain : (circuit : Circuit) (scale : Scale) (register : ℕ) (timed : Timed)
    → IsSmallScale scale → register < length circuit.registers → IsBelow (10 ^ 19) timed.arrival
    → AreSmallSlacks scale.den timed.slack → IsFlawless circuit scale (form.Register register)
    (register_line circuit scale.den register timed.arrival timed.slack)
register_plain circuit scale register timed small among below slacks =
    values_plain circuit (fields_of circuit scale (form.Register register) []) _
    (small_register circuit _ register small)
    ((register, among, refl), (below, (slacks.setup, (slacks.hold, tt))))

-- ---- a path

-- its fields, by whether it is printed, with so many signals
abbrev pub way_fields : (dash : Bool) (count : ℕ) → List Field
way_fields dash count = cond dash (field.Word (codes "path") ∷ field.Word (codes "-") ∷ [])
    (field.Word (codes "path") ∷ field.Counted count 65536 ∷ replicate count field.Signal)

small_signals : (count : ℕ) → AllByRecursion IsSmallField (replicate count field.Signal)
small_signals zero = tt
small_signals (suc count) = (tt, small_signals count)

-- words that are names of signals
record AreSignals (circuit : Circuit) (count : ℕ) (words : Words) : Type 0 where
  signals : List ℕ
  many : length signals ≡ count
  within : All (λ number. number < length circuit.signals) signals
  are : words ≡ map (signal_name circuit) signals

signals_found : (circuit : Circuit) (count : ℕ) (values : Values (replicate count field.Signal))
    → AdmitsEach circuit (replicate count field.Signal) values
    → AreSignals circuit count (spell_line circuit (replicate count field.Signal) values)
signals_found circuit zero values admitted = search (arith, All-nil)
signals_found circuit (suc count) values admitted =
    let more = signals_found circuit count values.1 admitted.1 in
    record {
      signals = values.0 ∷ more.signals;
      many = ap suc more.many;
      within = All-cons (λ number. number < length circuit.signals) values.0 more.signals
          admitted.0 more.within;
      are = ap (λ names. signal_name circuit values.0 ∷ names) more.are;
    }

pub path_found : (circuit : Circuit) (scale : Scale) (words : Words)
    → IsFlawless circuit scale form.Path words → (path : List ℕ) × DenotesPath circuit words path
path_found circuit scale words flawless = at (is_word words 1 (codes "-")) flawless
  where
    at : (dash : Bool) → LineHasFlaw circuit (way_fields dash (length words - 2)) words None
        → (path : List ℕ) × DenotesPath circuit words path
    at true flawless = search (arith, line_spelled, All-nil)
    at false flawless =
        let count = length words - 2 in
        let line = line_spelled circuit (way_fields false count) words
        (tt, (omega arith, small_signals count)) flawless in
        let (some, few) = line.admitted.1.0 in
        let named = signals_found circuit _ _ line.admitted.1.1 in (
          named.signals,
          path_read _ _ named.many some few named.within (line.are ∙ ap (λ names. codes "path"
              ∷ signed_decimal (pos count) ∷ names) named.are),
        )

-- the digits of a number aren't a dash
not_dash : (number : ℕ) → number < 10 ^ 37
    → bytes_eq (signed_decimal (pos number)) (codes "-") ≡ false
not_dash number less =
    false_from_ne_true (bytes_eq (signed_decimal (pos number)) (codes "-"))
    (λ same. no_fraction_minus (pos number) (pos 1) (few_digits (pos number) (small_number _ less))
    ((bytes_eq-Decides (signed_decimal (pos number)) (codes "-")).0 same))

names_told : (circuit : Circuit) (path : List ℕ)
    → All (λ number. number < length circuit.signals) path
    → Tells circuit (replicate (length path) field.Signal) (map (signal_name circuit) path)
names_told circuit [] within = record { values = tt; admitted = tt; are = refl }
names_told circuit (number ∷ path) within =
    let more = names_told circuit path (λ k d less. within (suc k) d (omega (arith, less))) in
    record {
      values = (number, more.values);
      admitted = (within 0 0 (omega arith), more.admitted);
      are = ap (λ names. signal_name circuit number ∷ names) more.are;
    }

pub path_plain : (circuit : Circuit) (scale : Scale) (path : List ℕ)
    → All (λ number. number < length circuit.signals) path → length path ≤ 65536
    → IsFlawless circuit scale form.Path (path_line circuit path)
path_plain circuit scale [] within few = search (arith, values_plain)
path_plain circuit scale (first ∷ more) within few =
    let path : List ℕ = first ∷ more in
    let line : Words = path_line circuit path in
    let count : length path ≡ length line - 2 =
    omega (arith, length-map path (signal_name circuit)) in
    let names = names_told circuit path within in
    subst (λ (dash : Bool). LineHasFlaw circuit (way_fields dash (length line - 2)) line None)
    (sym (not_dash _ (omega (arith, few)))) (subst (λ n. LineHasFlaw circuit (way_fields false n)
    line None) count (line_plain circuit (way_fields false (length path)) line
    (tt, (omega arith, small_signals (length path))) (record {
      values = (tt, (tt, names.values));
      admitted = (tt, ((omega arith, few), names.admitted));
      are = ap (λ ws. codes "path" ∷ signed_decimal (pos (length path)) ∷ ws) names.are;
    })))
