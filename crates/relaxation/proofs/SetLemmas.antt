-- Lists in which an entry is set.
use Rattle.relaxation.proofs.Vocabulary.{◌≢◌, ◌<◌, ℕ, List, length, get_or, set, inl, inr, sym, subst, cases_eq, get_or-set_same, get_or-set_other}

-- what holds of the entry that is set, and of each other as it was, holds of each
pub at_set : {A : Type 0} (P : ℕ → A → Type 0) (xs : List A) (i : ℕ) (x d : A) → i < length xs
    → P i x → ((j : ℕ) → j ≢ i → P j (get_or xs j d)) → (j : ℕ) → P j (get_or (set xs i x) j d)
at_set P xs i x d within here others j = elim (cases_eq j i) [
  | inl same ↦ subst (λ k. P k (get_or (set xs i x) k d)) (sym same)
      (subst (P i) (sym (get_or-set_same xs i x d within)) here)
  | inr apart ↦ subst (P j) (sym (get_or-set_other xs i j x d apart)) (others j apart)
]
