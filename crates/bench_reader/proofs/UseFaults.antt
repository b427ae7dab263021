-- The first line that uses a name which isn't defined.
use Rattle.bench_reader.proofs.Vocabulary.{◌≡◌, ◌∙◌, ◌+◌, ◌++◌, ◌∷◌, [], ℕ, Bool, true, false, if◌then◌else◌, List, length, Option, Some, None, is_some, sym, subst, ap, refl, append-nil, option_map_or, option_or, AllPass-from_list_all, list_all-from_AllPass, first_fault_after, passed_over, number_of, Statement, statement_of, uses_of, BenchFault, Undefined, use_fault, uses_defined, AreDefined, UsesDefined}
use Rattle.bench_reader.proofs.LineStatements.{statement_at}

module _ (names : List (List ℕ)) where
  abbrev is_numbered : List ℕ → Bool
  is_numbered name = is_some (number_of names name)

  -- the fault of a line, by whether all its names are defined
  abbrev by_use : (earlier : List (List ℕ)) → Bool → Option BenchFault
  by_use earlier defined = if defined then None else Some (Undefined (length earlier + 1))

  test_from_uses : (statement : Statement) → UsesDefined names statement
      → uses_defined names statement ≡ true
  test_from_uses statement uses = list_all-from_AllPass is_numbered (uses_of statement) uses

  fails_unless_uses : (statement : Statement) → (UsesDefined names statement → ⊥)
      → uses_defined names statement ≡ false
  fails_unless_uses statement refuses = at (uses_defined names statement) refl where
    at : (passed : Bool) → uses_defined names statement ≡ passed → passed ≡ false
    at true is = absurd (refuses (AllPass-from_list_all is_numbered (uses_of statement) is))
    at false is = refl

  -- a line whose names are defined has no fault
  no_use_fault : (earlier : List (List ℕ)) (line : List ℕ)
      → ((statement : Statement) → statement_of line ≡ Some statement
      → UsesDefined names statement) → use_fault names earlier line ≡ None
  no_use_fault earlier line uses = at (statement_of line) refl where
    at : (o : Option Statement) → statement_of line ≡ o
        → by_use earlier (option_map_or (uses_defined names) o true) ≡ None
    at None form = refl
    at (Some statement) form = ap (by_use earlier) (test_from_uses statement (uses statement form))

  -- such lines are passed over
  defined_passed : (lines later : List (List ℕ)) → AreDefined names lines
      → first_fault_after (use_fault names) [] (lines ++ later)
      ≡ first_fault_after (use_fault names) lines later
  defined_passed lines later defined = passed_over (use_fault names) [] lines later
      (λ earlier line more split. no_use_fault earlier line
      (λ statement form. statement_at (UsesDefined names) earlier line more statement form
      (subst (AreDefined names) split defined)))

  -- where all are such, there is none
  pub none_undefined : (lines : List (List ℕ)) → AreDefined names lines
      → first_fault_after (use_fault names) [] lines ≡ None
  none_undefined lines defined =
      ap (first_fault_after (use_fault names) []) (sym (append-nil lines))
      ∙ defined_passed lines [] defined

  -- and else the first that isn't
  pub undefined_first : (earlier : List (List ℕ)) (line : List ℕ) (later : List (List ℕ))
      (statement : Statement) → statement_of line ≡ Some statement → AreDefined names earlier
      → (UsesDefined names statement → ⊥)
      → first_fault_after (use_fault names) [] (earlier ++ line ∷ later)
      ≡ Some (Undefined (length earlier + 1))
  undefined_first earlier line later statement form defined refuses =
      defined_passed earlier (line ∷ later) defined
      ∙ ap (λ o. option_or (by_use earlier (option_map_or (uses_defined names) o true))
      (first_fault_after (use_fault names) (earlier ++ line ∷ []) later)) form
      ∙ ap (λ b. option_or (by_use earlier b)
      (first_fault_after (use_fault names) (earlier ++ line ∷ []) later))
      (fails_unless_uses statement refuses)
