-- The numbers of the names that a signal reads, one after the other.
use Rattle.bench_reader.proofs.Vocabulary.{◌≡◌, ℕ, List, [], ◌∷◌, ◌++◌, Some, IsSome, All, refl, sym, ap, ◌∙◌, subst, append_assoc, append-nil, filter_map, All-push, number_of, Statement, uses_of, filter_map_push_some, BenchFault, IsUseFault}

-- the name has a number
abbrev IsNumbered : List (List ℕ) → List ℕ → Type 0
IsNumbered names name = IsSome (number_of names name)

-- these are the numbers of the names so far
pub record NumbersPassed (names used left : List (List ℕ)) (numbers : List ℕ) : Type 0 where
  pub passed : List (List ℕ)
  pub split : used ≡ passed ++ left
  pub numbers_are : numbers ≡ filter_map (number_of names) passed
  pub defined : All (λ name. IsSome (number_of names name)) passed

module _ {names used left more : List (List ℕ)} {numbers : List ℕ} {name : List ℕ}
    (before : NumbersPassed names used left numbers) (some : left ≡ name ∷ more) where
  -- where the next name stands
  place : used ≡ before.passed ++ name ∷ more
  place = before.split ∙ ap (λ l. before.passed ++ l) some

  -- a turn
  pub numbers_next : {number : ℕ} {new : List ℕ} → number_of names name ≡ Some number
      → new ≡ numbers ++ number ∷ [] → NumbersPassed names used more new
  numbers_next {number} has put = record {
    passed = before.passed ++ name ∷ [];
    split = place ∙ sym (append_assoc before.passed (name ∷ []) more);
    numbers_are = put ∙ ap (λ l. l ++ number ∷ []) before.numbers_are
        ∙ sym (filter_map_push_some (number_of names) before.passed name number has);
    defined = All-push (IsNumbered names) before.passed name before.defined (rw has refl);
  }

module _ {names used left : List (List ℕ)} {numbers : List ℕ}
    (before : NumbersPassed names used left numbers) (none : left ≡ []) where
  -- at the end all names are passed
  whole : before.passed ≡ used
  whole = sym (before.split ∙ ap (λ l. before.passed ++ l) none ∙ append-nil before.passed)

  -- so each has a number
  pub all_numbered : All (λ name. IsSome (number_of names name)) used
  all_numbered = subst (All (IsNumbered names)) whole before.defined

-- whoever misses a name that a statement uses refuses the statement
pub misses_use : (number : ℕ) (names used : List (List ℕ)) (statement : Statement)
    (fault : BenchFault) → uses_of statement ≡ used → IsUseFault number names used fault
    → IsUseFault number names (uses_of statement) fault
misses_use number names used statement fault is misses =
    subst (λ names_used. IsUseFault number names names_used fault) (sym is) misses
