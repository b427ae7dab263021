-- Paths of constraints, one put after the other while there is room.
use Rattle.path_delays.proofs.Vocabulary.{◌≡◌, ◌<◌, ◌≤◌, ◌+◌, ◌-◌, ℕ, List, [], ◌∷◌, ◌++◌, length, get_or, Bool, true, false, Option, Some, None, refl, ap, subst, sym, ◌∙◌, arith, ◌+ℤ◌, ◌-ℤ◌, if◌then◌else◌, slice_range, leb-true, leb-false, ints, drop_all, drop_more, drop-drop, take-append-drop, Circuit, Constraint, Tech, least_delay, greatest_delay, IsPath, path_within, FitsRoom, IsPathWithin, KeepsPaths, pair_of, IsExtremeIfAny}
use Rattle.std.specs.Prelude.{MatchBool, drop}
use Rattle.std.proofs.lemmas.List.{append-nil, append_assoc}
use Rattle.std.proofs.Math.Seq.{append_snoc}
use Rattle.cts_model.specs.Vocabulary.{ArePathsWithin, GivesWeight, IsConstraintOf, IsHoldConstraint, IsSetupConstraint}

-- paths of the constraints from this place on, for which there is room, come after those before
abbrev pub AreEarlierPaths : Circuit → Tech → (cycle : List Constraint) → (place room : ℕ)
    → (paths : List (List ℕ)) → Type 0
AreEarlierPaths circuit tech cycle place room paths = (rest : List (List ℕ))
    → ArePathsWithin circuit tech room (drop place cycle) rest
    → ArePathsWithin circuit tech 4096 cycle (paths ++ rest)

-- a constraint's registers are ones of the circuit
pub pair_within : (circuit : Circuit) (tech : Tech) (constraint : Constraint)
    → IsConstraintOf circuit tech constraint → ((pair_of constraint).0 < length circuit.registers)
    × ((pair_of constraint).1 < length circuit.registers)
pair_within circuit tech constraint is_one = grind (arith, path_within)

-- a path has a signal
some_signal : (circuit : Circuit) (from to : ℕ) (path : List ℕ) → IsPath circuit from to path
    → length path ≤ 0 → ⊥
some_signal circuit from to [] is_path none = is_path
some_signal circuit from to (first ∷ gates) is_path none = omega (arith, none)

-- so a constraint's path isn't kept without room
pub without_room : (circuit : Circuit) (tech : Tech) (constraint : Constraint) (room : ℕ)
    (path : List ℕ) → IsConstraintOf circuit tech constraint → room ≡ 0 → path ≡ []
    → IsPathWithin circuit tech constraint room path
without_room circuit tech constraint room path is_one full none = grind (arith, some_signal)

-- what is kept of a path takes what it has of the room
kept_first : (circuit : Circuit) (tech : Tech) (room : ℕ) (constraint : Constraint)
    → (more : List Constraint) (whole path : List ℕ) (rest : List (List ℕ))
    → GivesWeight circuit tech constraint whole → FitsRoom whole room path
    → ArePathsWithin circuit tech (room - length path) more rest
    → ArePathsWithin circuit tech room (constraint ∷ more) (path ∷ rest)
kept_first circuit tech room constraint more whole path rest gives kept within =
    grind (arith, leb-true, leb-false)

-- the extreme path of its pair gives a constraint its weight
pub path_kept : (circuit : Circuit) (tech : Tech) (constraint : Constraint) (room : ℕ)
    (found : Option (List ℕ)) (path : List ℕ) → IsConstraintOf circuit tech constraint
    → IsExtremeIfAny circuit tech (pair_of constraint).0 (pair_of constraint).1 constraint.setup
    found → ((whole : List ℕ) → found ≡ Some whole → FitsRoom whole room path)
    → IsPathWithin circuit tech constraint room path
path_kept circuit tech constraint room found path is_one extreme kept =
    let whole = at constraint.setup found is_one extreme refl in
    record { whole = whole.0; gives = whole.1; kept = kept whole.0 whole.2 }
  where
    Gives : Bool → List ℕ → Type 0
    Gives setup whole = MatchBool setup
        (IsPath circuit constraint.tail constraint.head whole
        × (greatest_delay circuit tech whole +ℤ tech.setup ≡ constraint.weight))
        (IsPath circuit constraint.head constraint.tail whole
        × (tech.hold -ℤ least_delay circuit tech whole ≡ constraint.weight))

    at : (setup : Bool) (o : Option (List ℕ)) → MatchBool setup
        (IsSetupConstraint circuit tech constraint.tail constraint.head constraint.weight)
        (IsHoldConstraint circuit tech constraint.head constraint.tail constraint.weight)
        → (let pair : ℕ × ℕ = if setup then (constraint.tail, constraint.head)
        else (constraint.head, constraint.tail) in
        IsExtremeIfAny circuit tech pair.0 pair.1 setup o) → found ≡ o
        → (whole : List ℕ) × Gives setup whole × (found ≡ Some whole)
    at true None is_setup none here = absurd (none is_setup.path is_setup.joins)
    at false None is_hold none here = absurd (none is_hold.path is_hold.joins)
    at true (Some whole) is_setup is here =
        let above = is_setup.greatest whole is.is_path in
        let below = is.extreme is_setup.path is_setup.joins in
        (whole, (is.is_path, omega (arith, ints, above, below, is_setup.weight_is)), here)
    at false (Some whole) is_hold is here =
        let below = is_hold.least whole is.is_path in
        let above = is.extreme is_hold.path is_hold.joins in
        (whole, (is.is_path, omega (arith, ints, above, below, is_hold.weight_is)), here)

-- paths of the constraints before a place are put last, and leave so much room for those from it on
-- and for those of more
pub record KeepsBefore (circuit : Circuit) (tech : Tech) (constraints : List Constraint)
    (room place left : ℕ) (old new : List (List ℕ)) : Type 0 where
  pub pushed : List (List ℕ)
  pub is : new ≡ old ++ pushed
  pub within : (more : List Constraint) (rest : List (List ℕ))
      → ArePathsWithin circuit tech left (drop place constraints ++ more) rest
      → ArePathsWithin circuit tech room (constraints ++ more) (pushed ++ rest)

module _ (circuit : Circuit) (tech : Tech) (constraints : List Constraint) (room : ℕ)
    (old : List (List ℕ)) where
  -- none yet
  pub keeps_none : KeepsBefore circuit tech constraints room 0 room old old
  keeps_none = grind (arith, append-nil)

  -- one more path
  pub keeps_next : (place left : ℕ) (new : List (List ℕ)) (path : List ℕ) (default : Constraint)
      → place < length constraints
      → IsPathWithin circuit tech (get_or constraints place default) left path
      → KeepsBefore circuit tech constraints room place left old new
      → KeepsBefore circuit tech constraints room (place + 1) (left - length path) old
      (new ++ path ∷ [])
  keeps_next place left new path default here found before =
      grind (arith, append_assoc, append_snoc, drop_more, kept_first)

  -- all of them
  pub keeps_all : (place left : ℕ) (new : List (List ℕ)) → length constraints ≤ place
      → KeepsBefore circuit tech constraints room place left old new
      → KeepsPaths circuit tech constraints room old new left
  keeps_all place left new past before = grind (arith, drop_all)

-- the paths of one block more
pub earlier_paths_more : (circuit : Circuit) (tech : Tech) (cycle : List Constraint)
    (first end room left : ℕ) (old new : List (List ℕ)) → first ≤ end
    → AreEarlierPaths circuit tech cycle first room old
    → KeepsPaths circuit tech (slice_range cycle first end) room old new left
    → AreEarlierPaths circuit tech cycle end left new
earlier_paths_more circuit tech cycle first end room left old new after earlier kept rest within =
    subst (ArePathsWithin circuit tech 4096 cycle)
    (sym (ap (λ l. l ++ rest) kept.is ∙ append_assoc old kept.pushed rest))
    (earlier (kept.pushed ++ rest)
    (subst (λ l. ArePathsWithin circuit tech room l (kept.pushed ++ rest)) joined
    (kept.within (drop end cycle) rest within)))
  where
    joined : slice_range cycle first end ++ drop end cycle ≡ drop first cycle
    joined =
        let whole : first + (end - first) ≡ end = omega arith in
        ap (λ l. slice_range cycle first end ++ l)
        (sym (drop-drop (end - first) first cycle ∙ ap (λ n. drop n cycle) whole))
        ∙ take-append-drop (end - first) (drop first cycle)

-- all paths
pub all_paths : (circuit : Circuit) (tech : Tech) (cycle : List Constraint) (place room : ℕ)
    → (paths : List (List ℕ)) → length cycle ≤ place
    → AreEarlierPaths circuit tech cycle place room paths
    → ArePathsWithin circuit tech 4096 cycle paths
all_paths circuit tech cycle place room paths past earlier =
    subst (ArePathsWithin circuit tech 4096 cycle) (append-nil paths)
    (earlier [] (subst (λ left. ArePathsWithin circuit tech room left [])
    (sym (drop_all place cycle past)) tt))
