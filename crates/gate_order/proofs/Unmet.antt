-- How many pairs still hold a gate back: those of a gate that it reads and that isn't taken yet.
use Rattle.gate_order.proofs.Vocabulary.{◌≡◌, ◌+◌, ◌<◌, ◌≤◌, ◌==◌, ◌&&◌, ◌||◌, nat_eq, not, ℕ, zero, suc, Bool, true, false, cond, List, [], ◌∷◌, ◌++◌, map, filter, count_by, Contains, inl, inr, refl, sym, ◌∙◌, ap, subst, arith, list_any, sum_by, eqb-true, eq-eqb, and_parts, false≢true, not-true, or_cases, or_left, or_right, sum_by-cons, get_or-le-sum_by, values_at, times_in}
use Rattle.std.proofs.lemmas.List.Folds.{list_any-append}
use Rattle.gate_order.proofs.Tallies.{sum_by_split}

-- whether a number stands in a list
abbrev pub is_among : List ℕ → ℕ → Bool
is_among numbers number = list_any (nat_eq number) numbers

-- whether the pair holds the gate back, where these gates are taken
abbrev pub holds_back : List ℕ → ℕ → ℕ × ℕ → Bool
holds_back taken gate pair = (pair.1 == gate) && not (is_among taken pair.0)

-- how many pairs do
abbrev pub unmet : List (ℕ × ℕ) → List ℕ → ℕ → ℕ
unmet pairs taken gate = count_by (holds_back taken gate) pairs

-- what the test says
pub Contains-from_test : (numbers : List ℕ) (number : ℕ) → is_among numbers number ≡ true
    → Contains numbers number
Contains-from_test [] number passes = absurd (false≢true passes)
Contains-from_test (first ∷ numbers) number passes =
    elim (or_cases (nat_eq number first) (is_among numbers number) passes) [
      | inl here ↦ (zero, omega arith, sym (eqb-true number first here))
      | inr later ↦
          let rest = Contains-from_test numbers number later in
          (suc rest.0, omega (arith, rest.1), rest.2)
    ]

-- and that it passes each number of the list
pub test_from_Contains : (numbers : List ℕ) (number : ℕ) → Contains numbers number
    → is_among numbers number ≡ true
test_from_Contains [] number (k, inside, here) = absurd (omega arith)
test_from_Contains (first ∷ numbers) number (zero, inside, here) =
    or_left (nat_eq number first) (is_among numbers number) (eq-eqb number first (sym here))
test_from_Contains (first ∷ numbers) number (suc k, inside, here) = or_right (nat_eq number first)
    (is_among numbers number) (test_from_Contains numbers number (k, omega arith, here))

-- some item of a list passes, where the count of those that pass isn't 0
passes_somewhere : {X : Type 0} (p : X → Bool) (xs : List X) → 0 < count_by p xs
    → (x : X) × Contains xs x × (p x ≡ true)
passes_somewhere p [] some = absurd (omega arith)
passes_somewhere {X} p (x ∷ xs) some = at (p x) refl (passes_somewhere p xs)
  where
    at : (b : Bool) → p x ≡ b → (0 < count_by p xs → (y : X) × Contains xs y × (p y ≡ true))
        → (y : X) × Contains (x ∷ xs) y × (p y ≡ true)
    at true here rest = (x, (zero, omega arith, refl), here)
    at false other rest =
        let value : cond {A = ℕ} (p x) 1 0 ≡ 0 = ap (λ b. cond b 1 0) other in
        let found = rest (omega (arith, some, sum_by-cons (λ y. cond (p y) 1 0) x xs, value)) in
        (found.0, (suc found.1.0, omega (arith, found.1.1), found.1.2), found.2)

-- none passes, where it is 0
passes_nowhere : {X : Type 0} (p : X → Bool) (xs : List X) (x : X) → count_by p xs ≡ 0
    → Contains xs x → p x ≡ false
passes_nowhere p xs x none (k, inside, here) = at (p x)
    (omega (
      arith,
      none,
      subst (λ y. cond (p y) 1 0 ≤ count_by p xs) here
          (get_or-le-sum_by (λ y. cond (p y) 1 0) xs k x inside),
    ))
  where
    at : (b : Bool) → cond {A = ℕ} b 1 0 ≡ 0 → b ≡ false
    at true one = absurd (omega arith)
    at false one = refl

-- a gate that is held back reads a gate that isn't taken
pub waits_for : (pairs : List (ℕ × ℕ)) (taken : List ℕ) (gate : ℕ) → 0 < unmet pairs taken gate
    → (read : ℕ) × Contains pairs (read, gate) × (is_among taken read ≡ false)
waits_for pairs taken gate some =
    let found = passes_somewhere (holds_back taken gate) pairs some in
    let both = and_parts (found.0.1 == gate) (not (is_among taken found.0.0)) found.2 in
    let same : found.0.1 ≡ gate = eqb-true found.0.1 gate both.0 in (
      found.0.0,
      subst (λ n. Contains pairs (found.0.0, n)) same found.1,
      not-true (is_among taken found.0.0) both.1,
    )

-- of a gate that nothing holds back all that it reads is taken
pub all_met : (pairs : List (ℕ × ℕ)) (taken : List ℕ) (gate read : ℕ) → unmet pairs taken gate ≡ 0
    → Contains pairs (read, gate) → Contains taken read
all_met pairs taken gate read none listed =
    Contains-from_test taken read
    (at (gate == gate) (is_among taken read) (eq-eqb gate gate refl)
    (passes_nowhere (holds_back taken gate) pairs (read, gate) none listed))
  where
    at : (a b : Bool) → a ≡ true → (a && not b) ≡ false → b ≡ true
    at true true e fails = refl
    at true false e fails = absurd (false≢true (sym fails))
    at false b e fails = absurd (false≢true e)

-- whether a pair is that of these two gates, as a number
abbrev times_at : ℕ → ℕ → ℕ × ℕ → ℕ
times_at read gate pair = cond (pair.0 == read) (cond (pair.1 == gate) 1 0) 0

-- how often a gate stands among the readers of another, pair by pair
times_in_values : (pairs : List (ℕ × ℕ)) (read gate : ℕ)
    → times_in gate (values_at pairs read) ≡ sum_by (times_at read gate) pairs
times_in_values [] read gate = refl
times_in_values (pair ∷ pairs) read gate = at (pair.0 == read) (times_in_values pairs read gate)
    ∙ sym (sum_by-cons (times_at read gate) pair pairs)
  where
    at : (b : Bool) → times_in gate (values_at pairs read) ≡ sum_by (times_at read gate) pairs
        → times_in gate (map (λ (other : ℕ × ℕ). other.1)
        (cond b (pair ∷ filter (λ (other : ℕ × ℕ). other.0 == read) pairs)
        (filter (λ (other : ℕ × ℕ). other.0 == read) pairs)))
        ≡ cond b (cond (pair.1 == gate) 1 0) 0 + sum_by (times_at read gate) pairs
    at true rest = sum_by-cons (λ reader. cond (reader == gate) 1 0) pair.1 (values_at pairs read)
        ∙ ap (λ n. cond (pair.1 == gate) 1 0 + n) rest
    at false rest = omega (arith, rest)

-- once a gate is taken, each reader waits for so many gates less as it stands among the gate's
-- readers
pub unmet_more : (pairs : List (ℕ × ℕ)) (taken : List ℕ) (read gate : ℕ)
    → is_among taken read ≡ false
    → unmet pairs (taken ++ read ∷ []) gate + times_in gate (values_at pairs read)
    ≡ unmet pairs taken gate
unmet_more pairs taken read gate fresh =
    let split = sum_by_split (λ pair. cond (holds_back taken gate pair) 1 0)
    (λ pair. cond (holds_back (taken ++ read ∷ []) gate pair) 1 0)
    (times_at read gate) parts pairs in
    omega (arith, split, times_in_values pairs read gate)
  where
    bits : (a b e : Bool) → (e ≡ true → b ≡ false)
        → cond (a && not b) 1 0 ≡ cond (a && not (b || (e || false))) 1 0 + cond e (cond a 1 0) 0
    bits true true true apart = absurd (false≢true (sym (apart refl)))
    bits true true false apart = refl
    bits true false true apart = refl
    bits true false false apart = refl
    bits false true true apart = refl
    bits false true false apart = refl
    bits false false true apart = refl
    bits false false false apart = refl

    parts : (pair : ℕ × ℕ)
        → cond (holds_back taken gate pair) 1 0
        ≡ cond (holds_back (taken ++ read ∷ []) gate pair) 1 0 + times_at read gate pair
    parts pair =
        let grown : is_among (taken ++ read ∷ []) pair.0
        ≡ (is_among taken pair.0 || (nat_eq pair.0 read || false)) =
        list_any-append (nat_eq pair.0) taken (read ∷ []) in
        rw grown (bits (pair.1 == gate) (is_among taken pair.0) (nat_eq pair.0 read)
        (λ e. subst (λ n. is_among taken n ≡ false) (sym (eqb-true pair.0 read e)) fresh))

-- where no gate is taken, all pairs of a gate hold it back
pub unmet_none : (pairs : List (ℕ × ℕ)) (gate : ℕ)
    → unmet pairs [] gate ≡ count_by (λ pair. pair.1 == gate) pairs
unmet_none [] gate = refl
unmet_none (pair ∷ pairs) gate =
    sum_by-cons (λ other. cond (holds_back [] gate other) 1 0) pair pairs
    ∙ (bits (pair.1 == gate) (unmet_none pairs gate)
    ∙ sym (sum_by-cons (λ other. cond (other.1 == gate) 1 0) pair pairs))
  where
    bits : (a : Bool) → unmet pairs [] gate ≡ count_by (λ other. other.1 == gate) pairs
        → cond (a && true) 1 0 + unmet pairs [] gate
        ≡ cond a 1 0 + count_by (λ other. other.1 == gate) pairs
    bits true rest = omega (arith, rest)
    bits false rest = omega (arith, rest)
