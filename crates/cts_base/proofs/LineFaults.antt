-- A walk over the lines of a text, to the first that is faulty.
use Rattle.cts_base.proofs.Vocabulary.{◌≡◌, ◌∙◌, ◌+◌, ◌++◌, ◌∷◌, [], ℕ, List, length, Option, Some, None, refl, sym, subst, ap, ◌<◌, ◌≤◌, ◌^◌, arith, append-nil, append_assoc, enumerate_from, slice_split, strip_carriage_return, nat_tests, length-append, length-map, length_push, length-slice_split, count_by-le-length, lines_of, is_line_feed, without_empty_last, first_fault, first_fault_after}
use Rattle.std.specs.Option.{option_or}

-- no line is left out but an empty last one
length-without_empty_last : (parts : List (List ℕ))
    → length (without_empty_last parts) ≤ length parts
length-without_empty_last [] = omega arith
length-without_empty_last ([] ∷ []) = omega arith
length-without_empty_last ((byte ∷ part) ∷ []) = grind (arith, nat_tests)
length-without_empty_last (part ∷ next ∷ more) =
    omega (arith, length-without_empty_last (next ∷ more))

-- a text has no more lines than bytes and one
few_lines : (text : List ℕ) → length (lines_of text) ≤ length text + 1
few_lines text = omega (
  arith,
  length-map (without_empty_last (slice_split is_line_feed text)) strip_carriage_return,
  length-without_empty_last (slice_split is_line_feed text),
  length-slice_split is_line_feed text,
  count_by-le-length is_line_feed text,
)

-- these lines are passed and none of them is faulty; those that are left have their numbers
pub record ArePassed {Fault : Type 0} (fault_of : List (List ℕ) → List ℕ → Option Fault)
    (text : List ℕ) (left : List (ℕ × List ℕ)) (next : ℕ) (passed : List (List ℕ)) : Type 0 where
  pub later : List (List ℕ)
  pub split : lines_of text ≡ passed ++ later
  pub left_is : left ≡ enumerate_from next later
  pub next_is : next ≡ length passed + 1
  pub rest : first_fault fault_of text ≡ first_fault_after fault_of passed later

-- the next line, and those after it
record IsNext (later : List (List ℕ)) (more : List (ℕ × List ℕ)) (next number : ℕ)
    (line : List ℕ) : Type 0 where
  others : List (List ℕ)
  later_is : later ≡ line ∷ others
  number_is : number ≡ next
  more_is : more ≡ enumerate_from (next + 1) others

next_line : (later : List (List ℕ)) (more : List (ℕ × List ℕ)) (next number : ℕ) (line : List ℕ)
    → enumerate_from next later ≡ (number, line) ∷ more → IsNext later more next number line
next_line [] more next number line same = cc
next_line (first ∷ others) more next number line same =
    let here : ◌≡◌ {A = ℕ × List ℕ} (next, first) (number, line) = cc in
    let line_is : first ≡ line = ap (λ p. p.1) here in
    let number_is : next ≡ number = ap (λ p. p.0) here in
    let rest : enumerate_from (next + 1) others ≡ more = cc in
    record {
      others = others;
      later_is = ap (λ l. l ∷ others) line_is;
      number_is = sym number_is;
      more_is = sym rest;
    }

-- where none is left none comes later
none_later : (next : ℕ) (later : List (List ℕ)) → enumerate_from next later ≡ [] → later ≡ []
none_later next [] none = refl
none_later next (line ∷ later) none = cc

-- what is found where this is wrong with the line after some
abbrev by_fault : {Fault : Type 0} (fault_of : List (List ℕ) → List ℕ → Option Fault)
    (passed later : List (List ℕ)) → Option Fault → List ℕ → Option Fault
by_fault fault_of passed later fault line =
    option_or fault (first_fault_after fault_of (passed ++ line ∷ []) later)

module _ {Fault : Type 0} {fault_of : List (List ℕ) → List ℕ → Option Fault} {text : List ℕ} where
  module _ {left more : List (ℕ × List ℕ)} {next number : ℕ} {line : List ℕ}
      {passed : List (List ℕ)} (walk : ArePassed fault_of text left next passed)
      (some : left ≡ (number, line) ∷ more) where
    step : IsNext walk.later more next number line
    step = next_line walk.later more next number line (sym walk.left_is ∙ some)

    -- the line's number is one more than how many are passed
    pub number_passed : number ≡ length passed + 1
    number_passed = step.number_is ∙ walk.next_is

    -- it is small
    pub number_small : length text ≤ 16777216 → number + 1 < 2 ^ 32
    number_small short = omega (
      arith,
      short,
      few_lines text,
      number_passed,
      ap length (walk.split ∙ ap (λ later. passed ++ later) step.later_is),
      length-append passed (line ∷ step.others),
    )

    -- the first fault of the text, by what is wrong with the line
    found : (fault : Option Fault) → fault_of passed line ≡ fault
        → first_fault fault_of text ≡ by_fault fault_of passed step.others fault line
    found fault has = walk.rest ∙ ap (first_fault_after fault_of passed) step.later_is
        ∙ ap (λ it. by_fault fault_of passed step.others it line) has

    -- a faulty line is the first
    pub first_found : (fault : Fault) → fault_of passed line ≡ Some fault
        → first_fault fault_of text ≡ Some fault
    first_found fault has = found (Some fault) has

    -- after one that isn't
    pub passed_next : fault_of passed line ≡ None
        → ArePassed fault_of text more (number + 1) (passed ++ line ∷ [])
    passed_next none = record {
      later = step.others;
      split = walk.split ∙ ap (λ later. passed ++ later) step.later_is
          ∙ sym (append_assoc passed (line ∷ []) step.others);
      left_is = step.more_is ∙ ap (λ n. enumerate_from (n + 1) step.others) (sym step.number_is);
      next_is = omega (arith, number_passed, length_push passed line);
      rest = found None none;
    }

  module _ {left : List (ℕ × List ℕ)} {next : ℕ} {passed : List (List ℕ)}
      (walk : ArePassed fault_of text left next passed) (none : left ≡ []) where
    ended : walk.later ≡ []
    ended = none_later next walk.later (sym walk.left_is ∙ none)

    -- at the end all lines are passed
    pub passed_last : passed ≡ lines_of text
    passed_last =
        sym (walk.split ∙ ap (λ later. passed ++ later) ended ∙ append-nil passed)

    -- and none is faulty
    pub flawless_last : first_fault fault_of text ≡ None
    flawless_last = walk.rest ∙ ap (first_fault_after fault_of passed) ended

-- where neither of two faults is, none is
pub neither : {Fault : Type 0} (one other : Option Fault) → option_or one other ≡ None
    → (one ≡ None) × (other ≡ None)
neither None other none = (refl, none)
neither (Some fault) other none = cc none

module _ {Fault : Type 0} (fault_of : List (List ℕ) → List ℕ → Option Fault) where
  -- lines that aren't faulty are passed over
  pub passed_over : (passed lines later : List (List ℕ))
      → ((earlier : List (List ℕ)) (line : List ℕ) (more : List (List ℕ))
      → lines ≡ earlier ++ line ∷ more → fault_of (passed ++ earlier) line ≡ None)
      → first_fault_after fault_of passed (lines ++ later)
      ≡ first_fault_after fault_of (passed ++ lines) later
  passed_over passed [] later each =
      ap (λ before. first_fault_after fault_of before later) (sym (append-nil passed))
  passed_over passed (line ∷ lines) later each =
      let here : fault_of passed line ≡ None =
      subst (λ before. fault_of before line ≡ None) (append-nil passed) (each [] line lines refl) in
      ap (λ it. by_fault fault_of passed (lines ++ later) it line) here
      ∙ passed_over (passed ++ line ∷ []) lines later
      (λ earlier next more split. subst (λ before. fault_of before next ≡ None)
      (sym (append_assoc passed (line ∷ []) earlier))
      (each (line ∷ earlier) next more (ap (λ rest. line ∷ rest) split)))
      ∙ ap (λ before. first_fault_after fault_of before later)
      (append_assoc passed (line ∷ []) lines)

  -- where none is faulty, no line is
  pub flawless_at : (passed earlier : List (List ℕ)) (line : List ℕ) (later : List (List ℕ))
      → first_fault_after fault_of passed (earlier ++ line ∷ later) ≡ None
      → fault_of (passed ++ earlier) line ≡ None
  flawless_at passed [] line later none =
      subst (λ before. fault_of before line ≡ None) (sym (append-nil passed))
      (neither (fault_of passed line) _ none).0
  flawless_at passed (first ∷ earlier) line later none =
      subst (λ before. fault_of before line ≡ None) (append_assoc passed (first ∷ []) earlier)
      (flawless_at (passed ++ first ∷ []) earlier line later
      (neither (fault_of passed first) _ none).1)
