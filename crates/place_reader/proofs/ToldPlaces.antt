-- What the places that are kept say of the whole text.
use Rattle.place_reader.proofs.Vocabulary.{◌≡◌, ℕ, ◌+◌, ◌≤◌, true, ◌||◌, IsTrue, List, [], ◌∷◌, ◌++◌, map, drop, length, Option, Some, None, Result, Ok, Err, refl, sym, ap, ◌∙◌, append_assoc, append-nil, arith, suc, slice_get, result_map_both, bytes_eq, or-true, drop_all, slice_get_within, get_or_from_slice_get, bytes_eq-Decides, first_fault, lines_of, Circuit, Point, PlaceFault, NoPlace, AreSameNames, place_line_fault, is_among, placed_at, places_after, places_in, points_from, register_nodes, wanted_nodes, with_source, AreSamePlaces}
use Rattle.std.proofs.Math.Seq.{drop-cons}

-- ---- registers, one after the other

-- points before those that are told
abbrev after : List Point → Result (List Point) PlaceFault → Result (List Point) PlaceFault
after points told = result_map_both (λ more. points ++ more) (λ fault. fault) told

-- one point more
after-push : (points : List Point) (point : Point) (told : Result (List Point) PlaceFault)
    → after points (result_map_both (λ more. point ∷ more) (λ fault. fault) told)
    ≡ after (points ++ point ∷ []) told
after-push points point (Ok more) = ap Ok (sym (append_assoc points (point ∷ []) more))
after-push points point (Err fault) = refl

-- these are the points of the first so many names
pub record ArePoints (place : List ℕ → Option Point) (names : List (List ℕ)) (number : ℕ)
    (points : List Point) : Type 0 where
  pub told : points_from 0 (map place names)
      ≡ after points (points_from number (map place (drop number names)))

module _ (place : List ℕ → Option Point) (names : List (List ℕ)) where
  -- at the start
  pub no_points : ArePoints place names 0 []
  no_points = record { told = at (points_from 0 (map place names)) }
    where
      at : (told : Result (List Point) PlaceFault) → told ≡ after [] told
      at (Ok points) = refl
      at (Err fault) = refl

  module _ (number : ℕ) (points : List Point) (are : ArePoints place names number points) where
    -- at the end
    pub all_points : length names ≤ number → points_from 0 (map place names) ≡ Ok points
    all_points last =
        are.told ∙ ap (λ rest. after points (points_from number (map place rest)))
        (drop_all number names last)
        ∙ ap Ok (append-nil points)

    module _ (name : List ℕ) (here : slice_get names number ≡ Some name) where
      -- the next name
      told_next : points_from 0 (map place names)
          ≡ after points (points_from number (place name ∷ map place (drop (number + 1) names)))
      told_next =
          let more : suc number ≡ number + 1 = omega arith in
          let rest = drop-cons names number name (slice_get_within names number name here)
          ∙ (λ i. get_or_from_slice_get names number name name here i ∷ drop (more i) names) in
          are.told ∙ ap (λ rest. after points (points_from number (map place rest))) rest

      -- the first that has no place
      pub no_point : place name ≡ None → points_from 0 (map place names) ≡ Err (NoPlace number)
      no_point none = told_next ∙ ap (λ o. after points
          (points_from number (o ∷ map place (drop (number + 1) names)))) none

      -- or one point more
      pub point_more : (point : Point) → place name ≡ Some point
          → ArePoints place names (number + 1) (points ++ point ∷ [])
      point_more point some = record {
        told =
            told_next ∙ ap (λ o. after points
            (points_from number (o ∷ map place (drop (number + 1) names)))) some
            ∙ after-push points point
            (points_from (number + 1) (map place (drop (number + 1) names)));
      }

-- ---- the whole text

-- a name is itself
same_bytes : (name : List ℕ) → bytes_eq name name ≡ true
same_bytes name = (bytes_eq-Decides name name).1 refl

-- places that are the same by names are those of all of them
places_same : (f g : List ℕ → Option Point) (names more : List (List ℕ))
    → ((name : List ℕ) → IsTrue (is_among (names ++ more) name) → f name ≡ g name)
    → map f names ≡ map g names
places_same f g [] more same = refl
places_same f g (name ∷ names) more same =
    let first = same name (ap (λ b. b || is_among (names ++ more) name) (same_bytes name)) in
    let rest = places_same f g names more (λ other among. same other
    (ap (λ b. bytes_eq other name || b) among ∙ or-true (bytes_eq other name))) in
    λ i. first i ∷ rest i

-- the last of some names is among them
last_among : (names : List (List ℕ)) (name : List ℕ) → is_among (names ++ name ∷ []) name ≡ true
last_among [] name = ap (λ b. b || is_among [] name) (same_bytes name)
last_among (first ∷ names) name =
    ap (λ b. bytes_eq name first || b) (last_among names name) ∙ or-true (bytes_eq name first)

module _ (text : List ℕ) (circuit : Circuit) (source host : List ℕ) (names : List (List ℕ))
    (same : AreSameNames names (wanted_nodes circuit source host)) where
  -- the lines have the same first fault
  fault_same : (found : Option PlaceFault) → first_fault (place_line_fault (is_among names)) text
      ≡ found
      → first_fault (place_line_fault (is_among (wanted_nodes circuit source host))) text ≡ found
  fault_same found is =
      let wanted = wanted_nodes circuit source host in
      let all : first_fault (place_line_fault (is_among names)) text
      ≡ first_fault (place_line_fault (is_among wanted)) text =
      λ i. first_fault (place_line_fault (λ name. same name i)) text in
      sym all ∙ is

  -- it is what the text tells
  pub line_refused : (fault : PlaceFault)
      → first_fault (place_line_fault (is_among names)) text ≡ Some fault
      → places_in text circuit source host ≡ Err fault
  unfolding places_in
  line_refused fault found = rw (fault_same (Some fault) found) refl

  -- where there is none the places that are kept tell the rest
  pub kept_told : (kept : List ℕ → Option Point)
      → first_fault (place_line_fault (is_among names)) text ≡ None
      → AreSamePlaces (is_among names) kept (placed_at (places_after [] (lines_of text)))
      → places_in text circuit source host
      ≡ with_source (points_from 0 (map kept (register_nodes circuit host)))
      (kept source)
  unfolding places_in
  kept_told kept flawless are =
      let places = places_after [] (lines_of text) in
      let by_name : (name : List ℕ) → IsTrue (is_among (wanted_nodes circuit source host) name)
      → placed_at places name ≡ kept name =
      λ name among. sym (are name (same name ∙ among)) in
      let registers = places_same (placed_at places) kept (register_nodes circuit host)
      (source ∷ []) by_name in
      let at_source = by_name source (last_among (register_nodes circuit host) source) in
      rw (fault_same None flawless)
      (λ i. with_source (points_from 0 (registers i)) (at_source i))
