-- Items of lists that grow at the end, or where one is set.
use Rattle.topology.proofs.Vocabulary.{◌≡◌, ◌≢◌, ◌⊎◌, ℕ, zero, suc, ◌<◌, List, [], ◌∷◌, ◌++◌, length, set, Some, refl, ap, arith, slice_get, cases_eq, slice_get_within}

module _ {A : Type 0} where
  -- what was there stays
  pub pushed_other : (xs : List A) (last : A) (k : ℕ) → k ≢ length xs
      → slice_get (xs ++ last ∷ []) k ≡ slice_get xs k
  pushed_other [] last zero differs = absurd (differs refl)
  pushed_other [] last (suc k) differs = refl
  pushed_other (x ∷ xs) last zero differs = refl
  pushed_other (x ∷ xs) last (suc k) differs =
      pushed_other xs last k (λ is. differs (ap suc is))

  pub pushed_last : (xs : List A) (last : A) → slice_get (xs ++ last ∷ []) (length xs) ≡ Some last
  pushed_last [] last = refl
  pushed_last (x ∷ xs) last = pushed_last xs last

  -- an item is one that was there, or the last
  pub pushed_cases : (xs : List A) (last : A) (k : ℕ) (x : A)
      → slice_get (xs ++ last ∷ []) k ≡ Some x
      → ((k < length xs) × (slice_get xs k ≡ Some x)) ⊎ ((k ≡ length xs) × (last ≡ x))
  pushed_cases xs last k x here =
      search (arith, cases_eq, pushed_last, pushed_other, slice_get_within)

  -- where one is set, the others stay
  pub set_other : (xs : List A) (i : ℕ) (y : A) (k : ℕ) → k ≢ i
      → slice_get (set xs i y) k ≡ slice_get xs k
  set_other [] i y k differs = refl
  set_other (x ∷ xs) zero y zero differs = absurd (differs refl)
  set_other (x ∷ xs) zero y (suc k) differs = refl
  set_other (x ∷ xs) (suc i) y zero differs = refl
  set_other (x ∷ xs) (suc i) y (suc k) differs = set_other xs i y k (λ is. differs (ap suc is))

  pub set_there : (xs : List A) (i : ℕ) (y : A) → i < length xs
      → slice_get (set xs i y) i ≡ Some y
  set_there [] i y within = absurd (omega (arith, within))
  set_there (x ∷ xs) zero y within = refl
  set_there (x ∷ xs) (suc i) y within = set_there xs i y (omega (arith, within))
