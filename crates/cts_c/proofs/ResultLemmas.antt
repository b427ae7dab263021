-- What two accounts of one answer leave.
use Rattle.std.proofs.Common.{◌≡◌, ◌⊎◌, inl, inr, Result, Ok, Err, IfOk, sym, ◌∙◌}

module _ {T E : Type 0} (result : Result T E) where
  -- an answer is no value and no error at once, and it is one value, or one error
  apart : (value : T) (error : E) → result ≡ Ok value → result ≡ Err error → ⊥
  apart value error is same = cc (sym is ∙ same)

  one_value : (value other : T) → result ≡ Ok value → result ≡ Ok other → value ≡ other
  one_value value other is same = cc (sym is ∙ same)

  one_error : (error other : E) → result ≡ Err error → result ≡ Err other → error ≡ other
  one_error error other is same = cc (sym is ∙ same)

  module _ (wanted : T) (free : E) (alone : (result ≡ Ok wanted) ⊎ (result ≡ Err free)) where
    -- one that has this value or that error, and has an error, has that one
    pub error_alone : (error : E) → result ≡ Err error → error ≡ free
    error_alone error is = elim alone [
      | inl same ↦ absurd (apart wanted error same is)
      | inr same ↦ one_error error free is same
    ]

    -- and has a value, has this one
    pub value_alone : (value : T) → result ≡ Ok value → value ≡ wanted
    value_alone value is = elim alone [
      | inl same ↦ one_value value wanted is same
      | inr same ↦ absurd (apart value free is same)
    ]

-- what follows from two facts of a value
pub both_ok : {T E : Type 0} → (result : Result T E) → (One Other Both : T → Type 0)
    → ((value : T) → One value → Other value → Both value) → IfOk result One → IfOk result Other
    → IfOk result Both
both_ok (Ok value) One Other Both follows one other = follows value one other
both_ok (Err error) One Other Both follows one other = tt
