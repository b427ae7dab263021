-- The combined list of small constraints.
use Rattle.corners.proofs.Vocabulary.{◌<◌, ◌≤◌, ◌≡◌, ℕ, List, length, arith, All, get_or_default, Constraint, AreSmallConstraints, IsCombinedAt}

-- the combined list is of small constraints where each corner's is
pub small_of_each : (registers : ℕ) (lists : List (List Constraint))
    → (constraints : List Constraint) (corners : List ℕ) → 1 ≤ length lists
    → All (λ list. length list ≡ length constraints) lists
    → ((place : ℕ) → place < length constraints → IsCombinedAt lists constraints corners place)
    → All (AreSmallConstraints registers) lists → AreSmallConstraints registers constraints
small_of_each registers lists constraints corners some lengths combined small =
    search (arith, get_or_default)
