-- Values that are brought to another scale, one after the other, and parents that are none.
use Rattle.relaxation.proofs.GainLemmas.{kept}
use Rattle.relaxation.proofs.SetLemmas.{at_set}
use Rattle.relaxation.proofs.Vocabulary.{All, ◌≡◌, ◌<◌, ◌≤◌, ◌+◌, ◌^◌, ◌∙◌, ℕ, ℤ, List, length, get_or, set, replicate, None, ◌⊎◌, inl, inr, ap, arith, ints, slice_get, option_and_then, cases_lt, get_or-replicate, length-set, length-replicate, slice_get-get_or, slice_get_past, Constraint, IsBelow, Relaxation, parent_of}

-- so many values are small, and the parents stay
pub record IsPrepared (count : ℕ) (begun now : Relaxation) : Type 0 where
  pub values : length now.values.items ≡ length begun.values.items
  pub parents : now.parents.items ≡ begun.parents.items
  pub constraints : now.constraints.now ≡ begun.constraints.now
  pub small : (register : ℕ) (default : ℤ) → register < count → register < length now.values.items
      → IsBelow (2 ^ 88) (get_or now.values.items register default)

-- one more value is small
pub IsPrepared-more : {register : ℕ} {value : ℤ} {begun now later : Relaxation}
    → register < length begun.values.items → later.values.items
    ≡ set now.values.items register (kept value) → later.parents.items ≡ now.parents.items
    → later.constraints.now ≡ now.constraints.now → IsBelow (2 ^ 88) value
    → IsPrepared register begun now → IsPrepared (register + 1) begun later
IsPrepared-more {register} {value} {begun} {now} {later} inside values parents kept_constraints
    small prepared =
    record {
      values = ap length values ∙ length-set now.values.items register (kept value)
          ∙ prepared.values;
      parents = parents ∙ prepared.parents;
      constraints = kept_constraints ∙ prepared.constraints;
      small = λ other default before within. rw values (at_set (λ r z. r < register + 1
          → r < length now.values.items → IsBelow (2 ^ 88) z) now.values.items register (kept value)
          default (omega (arith, prepared.values)) (λ early known. rw read small) (λ r apart early
          known. prepared.small r default (omega (arith, early, apart)) known) other before (omega (
            arith,
            ap length values,
            length-set now.values.items register (kept value),
          )));
    }
  where
    read : kept value ≡ value
    read = omega (arith, ints, small.above, small.below)

-- values stay small where one becomes another that is
pub small_set : (size : ℕ) (values : List ℤ) (register : ℕ) (value : ℤ) → size ≤ 2 ^ 94
    → register < length values → IsBelow size value → All (IsBelow (2 ^ 94)) values
    → All (IsBelow (2 ^ 94)) (set values register (kept value))
small_set size values register value low inside small smalls place default within =
    at_set (λ r z. r < length values → IsBelow (2 ^ 94) z) values register (kept value) default
    inside (λ known. record {
      above = omega (arith, ints, small.above, small.below);
      below = omega (arith, ints, small.above, small.below);
    }) (λ r apart known. smalls r default known) place
    (omega (arith, within, length-set values register (kept value)))

-- no place in a list of constraints is that large
pub no_parents : (registers : ℕ) (constraints : List Constraint) (register : ℕ) → length constraints
    ≤ 2097152 → parent_of constraints (replicate registers 4294967295) register ≡ None
no_parents registers constraints register few = by_place (cases_lt register registers)
  where
    -- it is past the end of the list
    past : slice_get constraints 4294967295 ≡ None
    past = slice_get_past constraints 4294967295 (omega arith)

    -- of a register and of a number beyond them
    by_place : (register < registers) ⊎ (registers ≤ register)
        → parent_of constraints (replicate registers 4294967295) register ≡ None
    by_place (inl within) = ap (option_and_then (slice_get constraints))
        (slice_get-get_or (replicate registers 4294967295) register 0
        (omega (arith, length-replicate {A = ℕ} registers 4294967295)))
        ∙ (ap (slice_get constraints) (get_or-replicate registers register 4294967295 0 within)
        ∙ past)
    by_place (inr beyond) = ap (option_and_then (slice_get constraints))
        (slice_get_past (replicate registers 4294967295) register
        (omega (arith, length-replicate {A = ℕ} registers 4294967295)))
