-- The first number of a list that isn't 0.
use Rattle.gate_order.proofs.Vocabulary.{◌≡◌, ◌<◌, nat_lt, ℕ, Bool, true, false, cond, List, length, get_or, Some, None, position, inl, inr, refl, sym, arith, position_or_len, cases_lt, ltb-true, ltb-false, get_or_past, fails_before_first, position-Some}

-- where there is none, all are 0
pub all_idle : (waiting : List ℕ) → None ≡ position (λ number. nat_lt 0 number) waiting → (gate : ℕ)
    → get_or waiting gate 0 ≡ 0
all_idle waiting none gate = elim (cases_lt gate (length waiting)) [
  | inl within ↦
      let past =
      at (nat_lt (position_or_len (λ number. nat_lt 0 number) waiting) (length waiting)) refl
      (sym none) in
      let fails = fails_before_first (λ number. nat_lt 0 number) waiting gate 0
      (omega (
        arith,
        ltb-false (position_or_len (λ number. nat_lt 0 number) waiting) (length waiting) past,
      )) in
      omega (arith, ltb-false 0 (get_or waiting gate 0) fails)
  | inr past ↦ get_or_past waiting gate 0 past
]
  where
    at : (b : Bool)
        → nat_lt (position_or_len (λ number. nat_lt 0 number) waiting) (length waiting) ≡ b
        → cond b (Some (position_or_len (λ number. nat_lt 0 number) waiting)) None ≡ None
        → nat_lt (position_or_len (λ number. nat_lt 0 number) waiting) (length waiting) ≡ false
    at true found some = cc
    at false found some = found

-- and where there is one, it isn't 0
pub first_waits : (waiting : List ℕ) (start : ℕ)
    → Some start ≡ position (λ number. nat_lt 0 number) waiting → 0 < get_or waiting start 0
first_waits waiting start found = ltb-true 0 (get_or waiting start 0)
    (position-Some (λ number. nat_lt 0 number) waiting start 0 (sym found)).1
