-- What a call answers that is told by a text, but where memory is refused.
use Rattle.cts_base.proofs.Vocabulary.{◌≡◌, ◌≢◌, ◌⊎◌, inl, inr, Result, Ok, Err, sym, ◌∙◌, IsToldBy}

module _ {Value Fault : Type 0} (no_memory : Fault) (told : Result Value Fault) where
  -- a value is the one that is told
  pub told_ok : (value : Value) → IsToldBy no_memory told (Ok value) → told ≡ Ok value
  told_ok value (inl same) = sym same
  told_ok value (inr memory) = cc

  -- a fault is the one that is told, or want of memory
  pub told_err : (fault : Fault) → IsToldBy no_memory told (Err fault)
      → (told ≡ Err fault) ⊎ (fault ≡ no_memory)
  told_err fault (inl same) = inl (sym same)
  told_err fault (inr memory) = inr (cc)

  -- one that isn't want of memory is told
  pub told_fault : (fault : Fault) → fault ≢ no_memory → IsToldBy no_memory told (Err fault)
      → told ≡ Err fault
  told_fault fault other is = elim (told_err fault is) [
    | inl same ↦ same
    | inr memory ↦ absurd (other memory)
  ]

module _ {Value Fault : Type 0} (told : Result Value Fault) where
  -- one value is told
  pub one_value : (value other : Value) → told ≡ Ok value → told ≡ Ok other → value ≡ other
  one_value value other first second =
      let same : ◌≡◌ {A = Result Value Fault} (Ok value) (Ok other) = sym first ∙ second in cc same

  -- and no fault beside it
  pub not_both : (value : Value) (fault : Fault) → told ≡ Ok value → told ≡ Err fault → ⊥
  not_both value fault first second =
      let same : ◌≡◌ {A = Result Value Fault} (Ok value) (Err fault) = sym first ∙ second in cc same
