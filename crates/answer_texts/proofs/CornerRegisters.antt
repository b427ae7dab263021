-- What a cycle of constraints of several corners names are registers of the circuit.
use Rattle.answer_texts.proofs.Vocabulary.{◌≡◌, ◌<◌, zero, suc, ℕ, List, [], ◌∷◌, length, All, Option, Some, None, IsSomeAnd, get_or, slice_get, refl, subst, arith, Circuit, Constraint, Tech, IsConstraintOf, IsBetweenRegisters, tail_within, head_within, IsConstraintIn, AreOfCorners}

-- a constraint at a place is one, whatever is read past the end
at_default : {X : Type 0} (xs : List X) (place : ℕ) (x y : X) → place < length xs
    → get_or xs place x ≡ get_or xs place y
at_default [] place x y within = absurd (omega arith)
at_default (one ∷ xs) zero x y within = refl
at_default (one ∷ xs) (suc place) x y within = at_default xs place x y (omega arith)

module _ (circuit : Circuit) (techs : List Tech) where
  -- a constraint of some corner leads between the circuit's registers
  between_in : (corner : ℕ) (constraint : Constraint)
      → IsConstraintIn circuit techs corner constraint
      → IsBetweenRegisters (length circuit.registers) constraint
  between_in corner constraint its = at (slice_get techs corner) its
    where
      at : (tech : Option Tech) → IsSomeAnd tech (λ tech. IsConstraintOf circuit tech constraint)
          → IsBetweenRegisters (length circuit.registers) constraint
      at None its = absurd its
      at (Some tech) its = record {
        tail = tail_within circuit tech constraint its;
        head = head_within circuit tech constraint its;
      }

  -- so those of a cycle do
  pub corners_among : (cycle : List Constraint) (corners : List ℕ)
      → AreOfCorners circuit techs cycle corners
      → All (IsBetweenRegisters (length circuit.registers)) cycle
  corners_among cycle corners of_corners = λ place default within.
      subst (IsBetweenRegisters (length circuit.registers))
      (at_default cycle place _ default within)
      (between_in _ _ (of_corners.each place within).here)
