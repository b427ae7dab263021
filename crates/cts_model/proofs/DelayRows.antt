-- The rows of a delay table.
use Rattle.cts_model.proofs.Vocabulary.{ℕ, pos, List, length, get_or, inl, inr, refl, sym, subst, arith, cases_lt, get_or_past, ints, GateDelay, no_delay, IsGateDelay, IsWithin}
use Rattle.std.proofs.Common.{All}

-- a row of no gates has the facts of every row
no_delay_valid : IsGateDelay no_delay
no_delay_valid = record {
  least = none 1000000;
  greatest = none 1000000;
  least_per_input = none 1000;
  greatest_per_input = none 1000;
  ordered = omega (arith, ints);
  ordered_per_input = omega (arith, ints);
  zero_least = λ e. refl;
  zero_greatest = λ e. refl;
  zero_least_per_input = λ e. refl;
  zero_greatest_per_input = λ e. refl;
}
  where
    none : (high : ℕ) → IsWithin 0 high (pos 0)
    none high = record { above = omega (arith, ints); below = omega (arith, ints) }

-- each row has them, also where a row is missing
pub row_valid : (rows : List GateDelay) (place : ℕ) → All IsGateDelay rows
    → IsGateDelay (get_or rows place no_delay)
row_valid rows place all = elim (cases_lt place (length rows)) [
  | inl within ↦ all place no_delay within
  | inr past ↦ subst IsGateDelay (sym (get_or_past rows place no_delay past)) no_delay_valid
]
