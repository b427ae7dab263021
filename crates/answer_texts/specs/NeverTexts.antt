-- What each command says that looks for a period: what it found, or a cycle that forbids every
-- period. Fishburn, "Clock Skew Optimization", 1990.
use Rattle.std.specs.Prelude.{◌≡◌, ℕ, zero, suc, List, ◌∷◌, [], codes}
use Rattle.answer_texts.specs.Types.{Circuit, Constraint, Tech}
use Rattle.cts_model.specs.Vocabulary.{IsForbidding, Words, text_of, cycle_lines}
use Rattle.critical_cycle.specs.CyclePlaces.{IsFromLowest}

-- a cycle that forbids every period
abbrev pub never_lines : Circuit → List Constraint → List Words
never_lines circuit cycle = (codes "never" ∷ []) ∷ cycle_lines circuit cycle

-- the bytes are a text for such a cycle of the circuit; it begins at its lowest register
pub record IsNeverText (circuit : Circuit) (tech : Tech) (text : List ℕ) : Type 0 where
  pub cycle : List Constraint
  pub forbids : IsForbidding circuit tech cycle
  pub lowest : IsFromLowest cycle
  pub spelled : text ≡ text_of (never_lines circuit cycle)

-- with status 0 the bytes say what was found, and with status 1 that no period is admitted
abbrev pub IsFoundOrNever : (Found Never : List ℕ → Type 0) → (status : ℕ) → List ℕ → Type 0
IsFoundOrNever Found Never zero text = Found text
IsFoundOrNever Found Never (suc zero) text = Never text
IsFoundOrNever Found Never (suc (suc more)) text = ⊥
