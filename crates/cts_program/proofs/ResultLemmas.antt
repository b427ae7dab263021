-- Facts of a call's answer that follow from its other facts.
use Rattle.std.proofs.Common.{Result, Ok, Err, IfOk, IfErr}

module _ {T E : Type 0} (result : Result T E) where
  -- of its success, from two facts of it
  pub if_ok_from : (P Q R : T → Type 0) → IfOk result P → IfOk result Q
      → ((x : T) → P x → Q x → R x) → IfOk result R
  if_ok_from P Q R = at result
    where
      at : (r : Result T E) → IfOk r P → IfOk r Q → ((x : T) → P x → Q x → R x) → IfOk r R
      at (Ok x) p q gives = gives x p q
      at (Err e) p q gives = tt

  -- of its refusal
  pub if_err_from : (P Q : E → Type 0) → IfErr result P → ((e : E) → P e → Q e) → IfErr result Q
  if_err_from P Q = at result
    where
      at : (r : Result T E) → IfErr r P → ((e : E) → P e → Q e) → IfErr r Q
      at (Ok x) p gives = tt
      at (Err e) p gives = gives e p
