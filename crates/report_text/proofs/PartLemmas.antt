-- What the first lines of a text tell of the lines after them, and where its first fault is.
use Rattle.report_text.proofs.Vocabulary.{◌≡◌, ◌≢◌, ◌≤◌, ◌^◌, ℕ, zero, suc, pos, Option, Some, None, List, [], ◌∷◌, ◌++◌, map, length, get_or, codes, if◌then◌else◌, refl, sym, ap, subst, ◌∙◌, append-nil, arith, ℤ, negsuc, ◌≤ℤ◌, Bool, true, false, cond, ne_eqb, slice_split, after_first, list_any, bytes_eq, length-replicate, Decides-int_eq, ints, signed_decimal, int_eq, digits_value, Circuit, Version, First, Second, Tech, Words, period_line, version_line, IsSmallPeriod, ReportFault, NoMemory, Scale, Heading, cycle_forms, forms_after, forms_of, HasHeading, HasShown, IsSmallCount, period_shown_line, scale_in, whole, HasFault, HasFirstFault, cycle_denoted, den_denoted, is_line_feed, scale_denoted, version_denoted, word_at, spaced_words, Left, Stops, Fraction, IsBelow, fraction_text, is_slash, HasNoSlash, whole_no_slash, unwrap_or}
use Rattle.report_text.specs.declared.sections.Shown.{Shown}
use Rattle.report_text.proofs.RowLemmas.{length_pathed}
use Rattle.report_text.proofs.WalkLemmas.{after_place, first_place}
use Rattle.report_text.proofs.OneLine.{Lacks}
use Rattle.report_text.proofs.NumberWords.{spelled_whole}
use Rattle.report_text.proofs.SpelledFields.{small_number, small_period}
use Rattle.report_text.specs.LineForms as form

-- ---- the denominator of a fraction

-- no byte is a slash
lacks_slash : (bytes : List ℕ) → HasNoSlash bytes → Lacks 47 bytes
lacks_slash [] none = tt
lacks_slash (byte ∷ bytes) none = (ne_eqb byte 47 none.0, lacks_slash bytes none.1)

no_slash_found : (bytes : List ℕ) → Lacks 47 bytes → list_any is_slash bytes ≡ false
no_slash_found [] lacks = refl
no_slash_found (byte ∷ bytes) lacks = search (arith, no_slash_found bytes lacks.1)

slash_found : (prefix back : List ℕ) → Lacks 47 prefix
    → list_any is_slash (prefix ++ 47 ∷ back) ≡ true
slash_found [] back lacks = refl
slash_found (byte ∷ prefix) back lacks = search (arith, slash_found prefix back lacks.1)

after_slash : (prefix back : List ℕ) → Lacks 47 prefix
    → after_first is_slash (prefix ++ 47 ∷ back) ≡ back
after_slash prefix back lacks = search (arith, first_place, after_place)

-- what is said of a word as a denominator
abbrev pub den_of : List ℕ → ℤ
den_of word = if list_any is_slash word
    then pos (digits_value 10 (after_first is_slash word)) else pos 1

-- the value of a number's digits
pub value_of : (number : ℕ) → IsBelow (10 ^ 37) (pos number)
    → digits_value 10 (signed_decimal (pos number)) ≡ number
value_of number small = (spelled_whole (pos number) small).1

-- of a fraction's text it is the denominator
fraction_den : (num den : ℤ) → pos 1 ≤ℤ den → IsBelow (10 ^ 37) num
    → IsBelow (10 ^ 37) den → den_of (fraction_text num den) ≡ den
fraction_den num (negsuc den) some small small' = absurd (omega (arith, ints, some))
fraction_den num (pos den) some small small' = at (int_eq (pos den) (pos 1)) refl
  where
    lacks : Lacks 47 (signed_decimal num)
    lacks = search (arith, lacks_slash, whole_no_slash, spelled_whole)

    at : (whole : Bool) → int_eq (pos den) (pos 1) ≡ whole → den_of (cond whole (signed_decimal num)
        (signed_decimal num ++ 47 ∷ signed_decimal (pos den))) ≡ pos den
    at true is = search (arith, no_slash_found, lacks, Decides-int_eq)
    at false is = search (arith, slash_found, lacks, after_slash, value_of)

-- so it is of a period's
pub period_den : (period : Fraction) → IsSmallPeriod period
    → den_of (fraction_text period.num period.den) ≡ period.den
period_den period small = search (arith, small_period, fraction_den)

-- ---- the version that the first line tells

pub version_told : (version : Version)
    → (if bytes_eq (get_or (version_line version) 1 []) (codes "1") then First else Second)
    ≡ version
version_told First = refl
version_told Second = refl

-- ---- how long the cycle is by the line that denotes it

abbrev pub cycle_of : (word count : List ℕ) → ℕ
cycle_of word count = if bytes_eq word (codes "floor") then 0 else digits_value 10 count

-- the image of an item
map_at : (xs : List (List ℕ)) (place : ℕ)
    → get_or (map spaced_words xs) place (spaced_words []) ≡ spaced_words (get_or xs place [])
map_at [] place = refl
map_at (x ∷ xs) zero = refl
map_at (x ∷ xs) (suc place) = map_at xs place

-- what is said of the line that shows the period
shown_count : (count : Option ℕ) → IsSmallCount count
    → cycle_of (get_or (period_shown_line count) 0 []) (get_or (period_shown_line count) 1 [])
    ≡ unwrap_or count 0
shown_count None small = refl
shown_count (Some count) small = value_of count (small_number count (omega (arith, small.1)))

-- a cycle has few lines
pub cycle_few : (version : Version) (count : Option ℕ) → IsSmallCount count
    → length (cycle_forms version (unwrap_or count 0)) ≤ 19998
cycle_few First None small = omega arith
cycle_few Second None small = omega arith
cycle_few First (Some count) small = omega (arith, length-replicate count form.Constraint, small.1)
cycle_few Second (Some count) small = omega (arith, length_pathed count, small.1)

-- what the first three lines denote of the others
module _ (text : List ℕ) (heading : Heading) (rest : List Words)
    (words : map spaced_words (slice_split is_line_feed text) ≡ version_line heading.version
    ∷ period_line heading.period ∷ period_shown_line heading.count ∷ rest)
    (small : IsSmallPeriod heading.period) (few : IsSmallCount heading.count) where
  -- the words of the lines
  denoted : (line place : ℕ) → word_at text line place ≡ get_or (get_or (version_line
      heading.version ∷ period_line heading.period ∷ period_shown_line heading.count ∷ rest) line
      (spaced_words [])) place []
  denoted line place = ap (λ ws. get_or ws place []) (sym
      (map_at (slice_split is_line_feed text) line) ∙ ap (λ ls. get_or ls line
      (spaced_words [])) words)

  denoted_version : version_denoted text ≡ heading.version
  denoted_version = search (arith, denoted, version_told)

  denoted_den : den_denoted text ≡ heading.period.den
  denoted_den = ap den_of (denoted 1 1) ∙ period_den heading.period small

  denoted_cycle : cycle_denoted text ≡ unwrap_or heading.count 0
  denoted_cycle = search (arith, denoted, shown_count)

  pub forms_denoted : (tech : Tech) → ◌≡◌ {A = Scale × Version × ℕ}
      (scale_denoted tech text, version_denoted text, cycle_denoted text)
      (scale_in tech heading.period, heading.version, unwrap_or heading.count 0)
  forms_denoted tech = search (arith, denoted_den, denoted_version, denoted_cycle)

  -- the first fault by the forms that they give
  pub fault_by : (circuit : Circuit) (tech : Tech) (fault : Option ReportFault)
      → HasFirstFault circuit (scale_in tech heading.period)
      (forms_of heading.version (unwrap_or heading.count 0) (length circuit.registers)) 1 text fault
      → HasFault circuit tech text fault
  fault_by circuit tech fault = subst (λ (given : Scale × Version × ℕ). HasFirstFault circuit
      given.0 (forms_of given.1 given.2 (length circuit.registers)) 1 text fault)
      (sym (forms_denoted tech))

module _ {circuit : Circuit} {text : List ℕ} {new : Left} {heading : Heading}
    (has : HasHeading circuit (whole text) new heading) where
  -- the first fault by the forms that the heading gives
  fault_given : (tech : Tech) (fault : Option ReportFault)
      → HasFirstFault circuit (scale_in tech heading.period)
      (forms_of heading.version (unwrap_or heading.count 0) (length circuit.registers)) 1 text fault
      → HasFault circuit tech text fault
  fault_given = fault_by text heading (map spaced_words (slice_split is_line_feed new.text))
      (has.lines (record { den = pos 1; grid = pos 1 })).words has.small has.count circuit

  -- a fault in what shows the period
  pub shown_fault : (tech : Tech) (fault : ReportFault)
      → Stops circuit (scale_in tech heading.period)
      (cycle_forms heading.version (unwrap_or heading.count 0)) new fault
      → fault ≢ NoMemory → HasFault circuit tech text (Some fault)
  shown_fault tech fault stops named =
      let suffix = forms_after heading.version (length circuit.registers) in
      let read = has.lines (scale_in tech heading.period) in
      fault_given tech _ (read.faults (cycle_forms heading.version (unwrap_or heading.count 0)
      ++ suffix) (Some fault) (stops named suffix))

  module _ (tech : Tech) {further : Left} {shown : Shown} (next : HasShown circuit
      (scale_in tech heading.period) heading.version heading.count new further shown) where
    -- a fault after that
    pub after_fault : (fault : Option ReportFault)
        → HasFirstFault circuit (scale_in tech heading.period)
        (forms_after heading.version (length circuit.registers)) further.line further.text fault
        → HasFault circuit tech text fault
    after_fault fault found =
        let suffix = forms_after heading.version (length circuit.registers) in
        let read = has.lines (scale_in tech heading.period) in
        fault_given tech _ (read.faults (cycle_forms heading.version (unwrap_or heading.count 0)
        ++ suffix) fault (next.lines.faults suffix fault found))

    pub body_fault : (fault : ReportFault) → Stops circuit (scale_in tech heading.period)
        (forms_after heading.version (length circuit.registers)) further fault → fault ≢ NoMemory
        → HasFault circuit tech text (Some fault)
    body_fault fault stops named =
        after_fault _ (subst (λ forms. HasFirstFault circuit (scale_in tech heading.period) forms
        further.line further.text (Some fault)) (append-nil (forms_after heading.version
        (length circuit.registers))) (stops named []))

-- a fault in the heading
pub heading_fault : (circuit : Circuit) (tech : Tech) (text : List ℕ) (fault : ReportFault)
    → ((scale : Scale) → Stops circuit scale (form.Version ∷ form.Period ∷ form.Show ∷ [])
    (whole text) fault)
    → fault ≢ NoMemory → HasFault circuit tech text (Some fault)
heading_fault circuit tech text fault stops named = search arith
