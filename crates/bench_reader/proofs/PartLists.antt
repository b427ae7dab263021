-- The registers and the first mentions, where one more comes.
use Rattle.bench_reader.proofs.Vocabulary.{◌≡◌, ℕ, Bool, true, false, not, if◌then◌else◌, ◌||◌, ◌==◌, nat_eq, List, [], ◌∷◌, ◌++◌, length, filter, refl, sym, ap, ◌∙◌, arith, append-nil, list_any, nat_tests, filter-append, Signal, is_register, registers_of, first_mentions, registers_push_none, registers_push_some, insert_key}

module _ (old : List Signal) {new : List Signal} (signal : Signal) {registers : List ℕ}
    (grown : new ≡ old ++ signal ∷ []) (are : registers ≡ registers_of old) where
  -- a signal that is no register leaves them as they are
  pub registers_stay : is_register signal.kind ≡ false → registers ≡ registers_of new
  registers_stay other =
      are ∙ sym (registers_push_none old signal other) ∙ ap registers_of (sym grown)

  -- a register comes after them
  pub registers_grow : {more : List ℕ} → is_register signal.kind ≡ true
      → more ≡ registers ++ length old ∷ [] → more ≡ registers_of new
  registers_grow register put = put ∙ ap (λ l. l ++ length old ∷ []) are
      ∙ sym (registers_push_some old signal register) ∙ ap registers_of (sym grown)

-- what a first mention keeps after it
abbrev differs : ℕ → ℕ → Bool
differs number other = not (other == number)

-- a number that is kept away is found no more, and any other is found as before
any_differs : (number last : ℕ) → nat_eq last number ≡ false → (numbers : List ℕ)
    → list_any (nat_eq last) (filter (differs number) numbers) ≡ list_any (nat_eq last) numbers
any_differs number last other [] = refl
any_differs number last other (next ∷ numbers) =
    at (nat_eq next number) refl (any_differs number last other numbers)
  where
    at : (b : Bool) → nat_eq next number ≡ b
        → list_any (nat_eq last) (filter (differs number) numbers) ≡ list_any (nat_eq last) numbers
        → list_any (nat_eq last) (filter (differs number) (next ∷ numbers))
        ≡ list_any (nat_eq last) (next ∷ numbers)
    at true same rest =
        let not_here : nat_eq last next ≡ false = grind (arith, nat_tests) in
        rw (same, not_here) rest
    at false differ rest = rw differ (ap (λ b. nat_eq last next || b) rest)

-- one more mention
pub mentions_push : (numbers : List ℕ) (last : ℕ)
    → first_mentions (numbers ++ last ∷ []) ≡ insert_key nat_eq (first_mentions numbers) last
mentions_push [] last = refl
mentions_push (number ∷ numbers) last =
    ap (λ l. number ∷ filter (differs number) l) (mentions_push numbers last)
    ∙ at (nat_eq last number) refl
  where
    -- a new number is put last on both sides, or found on both
    put : (found : Bool) → list_any (nat_eq last) (first_mentions numbers) ≡ found
        → nat_eq last number ≡ false → number ∷ filter (differs number)
        (if found then (first_mentions numbers) else (first_mentions numbers) ++ last ∷ [])
        ≡ (if found then number ∷ filter (differs number)
        (first_mentions numbers) else (number ∷ filter (differs number) (first_mentions numbers))
        ++ last ∷ [])
    put true some other = refl
    put false none other = ap (λ l. number ∷ l)
        (filter-append (differs number) (first_mentions numbers) (last ∷ []) ∙ rw other refl)

    -- the first number again is kept away
    gone : (found : Bool) → nat_eq last number ≡ true
        → number ∷ filter (differs number)
        (if found then (first_mentions numbers) else (first_mentions numbers) ++ last ∷ [])
        ≡ number ∷ filter (differs number) (first_mentions numbers)
    gone true same = refl
    gone false same = ap (λ l. number ∷ l)
        (filter-append (differs number) (first_mentions numbers) (last ∷ [])
        ∙ rw same (append-nil (filter (differs number) (first_mentions numbers))))

    at : (b : Bool) → nat_eq last number ≡ b
        → number ∷ filter (differs number) (insert_key nat_eq (first_mentions numbers) last)
        ≡ insert_key nat_eq (number ∷ filter (differs number) (first_mentions numbers)) last
    at true same = gone (list_any (nat_eq last) (first_mentions numbers)) same ∙ rw same refl
    at false other = put (list_any (nat_eq last) (first_mentions numbers)) refl other
        ∙ rw (other, any_differs number last other (first_mentions numbers)) refl
