-- What the code's test of a tight constraint says.
use Rattle.schedule.proofs.Vocabulary.{◌≡◌, ◌↔◌, ◌^◌, ◌∙◌, ℤ, pos, ◌-ℤ◌, ◌*ℤ◌, ◌≤ℤ◌, Bool, true, false, cond, nat_eq, FitsSigned, IsTrue, sym, arith, ints, w128, IsBelow, kept}
use mir.Val.{of_z}

-- the code compares the difference with the gain
abbrev pub tests : (to from gain : ℤ) → Bool
tests to from gain = nat_eq (of_z w128 (kept to -ℤ kept from)) (of_z w128 gain)

-- a test that passes makes them equal
passes_is : (to from gain : ℤ) → pos 0 ≤ℤ to → pos 0 ≤ℤ from → FitsSigned w128 to
    → FitsSigned w128 from → IsBelow (2 ^ 80) gain → tests to from gain ≡ true → to -ℤ from ≡ gain
passes_is to from gain to_from_zero from_from_zero to_fits from_fits small passes =
    grind (arith, ints)

-- what is equal passes
is_passes : (to from gain : ℤ) → pos 0 ≤ℤ to → pos 0 ≤ℤ from → FitsSigned w128 to
    → FitsSigned w128 from → IsBelow (2 ^ 80) gain → to -ℤ from ≡ gain → tests to from gain ≡ true
is_passes to from gain to_from_zero from_from_zero to_fits from_fits small same =
    grind (arith, ints)

-- what is asked less what is due
gain_due : (setup : Bool) (asked num : ℤ)
    → asked -ℤ cond setup num (pos 0) ≡ asked -ℤ (num *ℤ pos (cond setup 1 0))
gain_due true asked num = omega (arith, ints)
gain_due false asked num = omega (arith, ints)

-- so the code's test is the definition
pub tight_read : (to from gain asked num : ℤ) (setup : Bool) → pos 0 ≤ℤ to → pos 0 ≤ℤ from
    → FitsSigned w128 to → FitsSigned w128 from → IsBelow (2 ^ 80) gain
    → gain ≡ asked -ℤ cond setup num (pos 0) → IsTrue (tests to from gain)
    ↔ (to -ℤ from ≡ asked -ℤ (num *ℤ pos (cond setup 1 0)))
tight_read to from gain asked num setup to_from_zero from_from_zero to_fits from_fits small is = (
  λ passes. passes_is to from gain to_from_zero from_from_zero to_fits from_fits small passes
      ∙ (is ∙ gain_due setup asked num),
  λ same. is_passes to from gain to_from_zero from_from_zero to_fits from_fits small
      (same ∙ sym (is ∙ gain_due setup asked num)),
)
