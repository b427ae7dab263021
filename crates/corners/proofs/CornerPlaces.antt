-- What stands at places of a list, and the corners of the constraints there.
use Rattle.corners.proofs.Vocabulary.{◌≡◌, ◌<◌, ◌+◌, ◌∙◌, ℕ, zero, suc, List, [], ◌∷◌, ◌++◌, length, take, get_or, refl, sym, ap, subst, arith, All, cons_option, filter_map, slice_get, take_more, All-get_or, All-head, All-tail, filter_map-append, slice_get-get_or, Circuit, Constraint, Tech, AreOfCorners, IsOfCorner, no_constraint, constraint_at}

-- what stands at the next place comes after what stands at those before
pub at_places_more : {X : Type 0} (xs : List X) (places : List ℕ) (at start : ℕ) (default : X)
    → at < length places → All (λ place. place < length xs) places
    → filter_map (slice_get xs) (take (at + 1) places)
    ≡ filter_map (slice_get xs) (take at places) ++ get_or xs (get_or places at start) default ∷ []
at_places_more xs places at start default here within =
    let place = get_or places at start in
    let passed = filter_map (slice_get xs) (take at places) in
    let inside = All-get_or (λ n. n < length xs) places at start here within in
    ap (filter_map (slice_get xs)) (take_more places at start here)
    ∙ filter_map-append (slice_get xs) (take at places) (place ∷ [])
    ∙ ap (λ found. passed ++ cons_option found []) (slice_get-get_or xs place default inside)

module _ (circuit : Circuit) (techs : List Tech) where
  -- a constraint and its corner before others with theirs
  corners_cons : (constraint : Constraint) (corner : ℕ) (constraints : List Constraint)
      → (corners : List ℕ) → IsOfCorner circuit techs corner constraint
      → AreOfCorners circuit techs constraints corners
      → AreOfCorners circuit techs (constraint ∷ constraints) (corner ∷ corners)
  corners_cons constraint corner constraints corners here are = record {
    named = omega (arith, are.named);
    each = at;
  }
    where
      at : (place : ℕ) → place < length (constraint ∷ constraints)
          → IsOfCorner circuit techs (get_or (corner ∷ corners) place 0)
          (constraint_at (constraint ∷ constraints) place)
      at zero within = here
      at (suc place) within = are.each place (omega (arith, within))

  -- the constraints at places are of the corners there
  pub corners_at_places : (constraints : List Constraint) (corners places : List ℕ)
      → AreOfCorners circuit techs constraints corners
      → All (λ place. place < length constraints) places
      → AreOfCorners circuit techs (filter_map (slice_get constraints) places)
      (filter_map (slice_get corners) places)
  corners_at_places constraints corners [] are within =
      record { named = refl; each = λ place inside. absurd (omega (arith, inside)) }
  corners_at_places constraints corners (place ∷ places) are within =
      let Within : ℕ → Type 0 = λ n. n < length constraints in
      let inside = All-head Within place places within in
      let constraint = slice_get-get_or constraints place no_constraint inside in
      let corner = slice_get-get_or corners place 0 (omega (arith, are.named, inside)) in
      let more = filter_map (slice_get constraints) places in
      let others = filter_map (slice_get corners) places in
      subst (λ one. AreOfCorners circuit techs (cons_option one more)
      (cons_option (slice_get corners place) others)) (sym constraint)
      (subst (λ one. AreOfCorners circuit techs (constraint_at constraints place ∷ more)
      (cons_option one others)) (sym corner)
      (corners_cons (constraint_at constraints place) (get_or corners place 0) more others
      (are.each place inside)
      (corners_at_places constraints corners places are (All-tail Within place places within))))
