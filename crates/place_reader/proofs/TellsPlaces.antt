-- What a text that is a placement, and one that leaves a register without a place, say.
use Rattle.place_reader.proofs.Vocabulary.{◌≡◌, ℕ, ◌+◌, ◌<◌, Bool, true, false, cond, List, [], ◌∷◌, ◌++◌, map, length, Option, Some, None, Result, Ok, Err, refl, ap, ◌∙◌, arith, option_or, result_map_both, length-map, first_fault, first_fault_after, unless_faulty, lines_of, NumberFault, Circuit, Point, point_of, Entry, Blank, Header, Stands, PlaceFault, NoPlace, AcceptsPlacement, RefusesPlacement, place_entry_fault, place_line_fault, is_among, node_fault, placed_at, places_after, places_in, points_from, register_nodes, wanted_nodes, with_source}
use Rattle.cts_model.specs.declared.place.Places.{Places}

-- the lines give the places of a placement
pub record GivePlaces (given : List (List ℕ × Point)) (circuit : Circuit) (source host : List ℕ)
    (places : Places) : Type 0 where
  pub registers : map (placed_at given) (register_nodes circuit host) ≡ map Some places.registers
  pub at_source : placed_at given source ≡ Some places.source

-- points that are told are each there
points_told : (number : ℕ) (places : List (Option Point)) (points : List Point)
    → points_from number places ≡ Ok points → places ≡ map Some points
points_told number [] [] told = refl
points_told number [] (point ∷ points) told = cc
points_told number (None ∷ places) points told = cc
points_told number (Some first ∷ places) points told =
    at (points_from (number + 1) places) points told (points_told (number + 1) places)
  where
    at : (rest : Result (List Point) PlaceFault) (points : List Point)
        → result_map_both (λ more. first ∷ more) (λ fault. fault) rest ≡ Ok points
        → ((more : List Point) → rest ≡ Ok more → places ≡ map Some more)
        → Some first ∷ places ≡ map Some points
    at (Err fault) points told before = cc
    at (Ok more) [] told before = cc
    at (Ok more) (point ∷ points) told before =
        let rest = before more refl in
        let same : first ≡ point = cc told in
        let others : more ≡ points = cc told in
        (λ i. Some (same i) ∷ rest i) ∙ ap (λ ps. Some point ∷ map Some ps) others

-- a register that has none is one of them
unplaced_below : (number : ℕ) (places : List (Option Point)) (register : ℕ)
    → points_from number places ≡ Err (NoPlace register) → register < number + length places
unplaced_below number [] register told = cc
unplaced_below number (None ∷ places) register told =
    let same : number ≡ register = cc told in omega (arith, same)
unplaced_below number (Some first ∷ places) register told =
    at (points_from (number + 1) places) told (unplaced_below (number + 1) places register)
  where
    at : (rest : Result (List Point) PlaceFault)
        → result_map_both (λ more. first ∷ more) (λ fault. fault) rest ≡ Err (NoPlace register)
        → (rest ≡ Err (NoPlace register) → register < number + 1 + length places)
        → register < number + length (Some first ∷ places)
    at (Ok more) told before = cc
    at (Err fault) told before =
        let same : fault ≡ NoPlace register = cc told in
        let below = before (ap Err same) in
        omega (arith, below)

module _ (register : ℕ) where
  -- no line is refused for a register
  not_of_entry : (wanted : List ℕ → Bool) (given : List ℕ → Option Point) (number : ℕ)
      (entry : Option Entry) → place_entry_fault wanted given number entry ≡ Some
      (NoPlace register) → ⊥
  not_of_entry wanted given number None found = cc
  not_of_entry wanted given number (Some Blank) found = cc
  not_of_entry wanted given number (Some Header) found = cc
  not_of_entry wanted given number (Some (Stands node)) found =
      at (wanted node.name) (point_of node.x node.y) (given node.name) found
    where
      at : (b : Bool) (point : Result Point NumberFault) (before : Option Point)
          → cond b (node_fault number point before) None ≡ Some (NoPlace register) → ⊥
      at false point before found = cc
      at true (Err fault) before found = cc
      at true (Ok point) None found = cc
      at true (Ok point) (Some there) found = cc

  not_of_lines : (wanted : List ℕ → Bool) (earlier lines : List (List ℕ))
      → first_fault_after (place_line_fault wanted) earlier lines ≡ Some (NoPlace register) → ⊥
  not_of_lines wanted earlier [] found = cc
  not_of_lines wanted earlier (line ∷ later) found =
      at (place_line_fault wanted earlier line) refl found
      (not_of_lines wanted (earlier ++ line ∷ []) later)
    where
      at : (o : Option PlaceFault) → place_line_fault wanted earlier line ≡ o
          → option_or o (first_fault_after (place_line_fault wanted) (earlier ++ line ∷ []) later)
          ≡ Some (NoPlace register)
          → (first_fault_after (place_line_fault wanted) (earlier ++ line ∷ []) later
          ≡ Some (NoPlace register) → ⊥) → ⊥
      at None known found rest = rest found
      at (Some fault) known found rest = not_of_entry wanted _ _ _ (known ∙ found)

  -- nor is a text for one that is placed
  not_of_source : (points : Result (List Point) PlaceFault) (source : Option Point)
      → with_source points source ≡ Err (NoPlace register) → points ≡ Err (NoPlace register)
  not_of_source (Ok points) None told = cc
  not_of_source (Ok points) (Some source) told = cc
  not_of_source (Err fault) source told = cc

module _ (text : List ℕ) (circuit : Circuit) (source host : List ℕ) where
  -- what is given by the lines
  abbrev given : List (List ℕ × Point)
  given = places_after [] (lines_of text)

  -- of these a placement has its places
  pub accepted_gives : (places : Places) → AcceptsPlacement text circuit source host places
      → GivePlaces given circuit source host places
  unfolding places_in
  accepted_gives places accepts =
      at (first_fault (place_line_fault (is_among (wanted_nodes circuit source host))) text) accepts
    where
      by : (points : Result (List Point) PlaceFault) (there : Option Point)
          → points_from 0 (map (placed_at given) (register_nodes circuit host)) ≡ points
          → placed_at given source ≡ there → with_source points there ≡ Ok places
          → GivePlaces given circuit source host places
      by (Err fault) there known here told = cc
      by (Ok points) None known here told = cc
      by (Ok points) (Some there) known here told =
          let same : points ≡ places.registers = cc told in
          let at_source : there ≡ places.source = cc told in
          record {
            registers = points_told 0 _ places.registers (known ∙ ap Ok same);
            at_source = here ∙ ap Some at_source;
          }

      at : (o : Option PlaceFault)
          → unless_faulty o (with_source
          (points_from 0 (map (placed_at given) (register_nodes circuit host)))
          (placed_at given source)) ≡ Ok places → GivePlaces given circuit source host places
      at (Some fault) told = cc
      at None told = by _ _ refl refl told

  -- a register that has no place is one of the circuit
  pub unplaced_within : (register : ℕ)
      → RefusesPlacement text circuit source host (NoPlace register)
      → register < length circuit.registers
  unfolding places_in
  unplaced_within register refuses =
      at (first_fault (place_line_fault (is_among
      (wanted_nodes circuit source host))) text) refl refuses
    where
      at : (o : Option PlaceFault)
          → first_fault (place_line_fault (is_among (wanted_nodes circuit source host))) text ≡ o
          → unless_faulty o (with_source
          (points_from 0 (map (placed_at given) (register_nodes circuit host)))
          (placed_at given source)) ≡ Err (NoPlace register) → register < length circuit.registers
      at (Some fault) known told =
          let same : fault ≡ NoPlace register = cc told in
          absurd (not_of_lines register _ [] (lines_of text) (known ∙ ap Some same))
      at None known told =
          let below = unplaced_below 0 (map (placed_at given)
          (register_nodes circuit host)) register
          (not_of_source register _ (placed_at given source) told) in
          let nodes : length (register_nodes circuit host) ≡ length circuit.registers =
          length-map circuit.registers _ in
          omega (arith, below, length-map (register_nodes circuit host) (placed_at given), nodes)
