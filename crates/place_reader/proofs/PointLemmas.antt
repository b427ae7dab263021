-- The points of numbered nodes, by their names.
use Rattle.place_reader.proofs.Vocabulary.{◌≡◌, ◌≢◌, ◌<◌, ℕ, Bool, true, false, true≢false, cond, not, List, [], ◌∷◌, length, get_or, set, position, Option, Some, None, refl, sym, ap, ◌∙◌, subst, arith, nat_tests, option_or, bytes_eq, position_or_len, position-Some, passes_at_first, fails_before_first, prefix_len-le-length, get_or-set_same, get_or-set_other, get_or_past, list_any_at, list_any_none, bytes_eq-Decides, Point, is_among, placed_at, point_at, kept_at, TakesLine, node_fault, or-true, option_map, option_to_list, result_ok, point_of, Stands, Ok}
use Rattle.std.specs.Option.{is_some}
use Rattle.cts_model.specs.placement.PlaceLines as format
use Rattle.place_reader.specs.declared.fault.PlaceFault.TheVariants.{PlaceTwice}
use Rattle.place_reader.specs.declared.placing.Placing.{Placing}

-- nothing or else nothing
option_or-None : {X : Type 0} (found : Option X) → option_or found None ≡ found
option_or-None None = refl
option_or-None (Some found) = refl

module _ (names : List (List ℕ)) (name : List ℕ) where
  -- a name with a number is among the names
  pub numbered_among : (number : ℕ) → position (bytes_eq name) names ≡ Some number
      → is_among names name ≡ true
  numbered_among number found =
      let here = position-Some (bytes_eq name) names number [] found in
      list_any_at (bytes_eq name) names number [] here.0 here.1

  -- one without is none of them
  past_all : position (bytes_eq name) names ≡ None
      → position_or_len (bytes_eq name) names ≡ length names
  past_all none =
      grind (arith, nat_tests, prefix_len-le-length (λ other. not (bytes_eq name other)) names)

  pub unnumbered_absent : position (bytes_eq name) names ≡ None → is_among names name ≡ false
  unnumbered_absent none = list_any_none (bytes_eq name) names
      (λ k d within. fails_before_first (bytes_eq name) names k d (omega (arith, past_all none)))

module _ (names : List (List ℕ)) (points : List (Option Point))
    (long : length points ≡ length names) (name : List ℕ) where
  -- a name without a number has no point
  pub point_at-none : position (bytes_eq name) names ≡ None → point_at names points name ≡ None
  point_at-none none = get_or_past points (position_or_len (bytes_eq name) names) None
      (omega (arith, long, past_all names name none))

  module _ (number : ℕ) (found : position (bytes_eq name) names ≡ Some number) where
    -- the number is the first place of the name
    first_is : position_or_len (bytes_eq name) names ≡ number
    first_is = grind (arith, nat_tests)

    -- and has a point
    pub number_within : number < length points
    number_within =
        omega (arith, long, (position-Some (bytes_eq name) names number [] found).0)

    -- which is the node's
    pub point_at-number : point_at names points name ≡ get_or points number None
    point_at-number = ap (λ n. get_or points n None) first_is

    -- another name has another number
    other_number : (other : List ℕ) → bytes_eq other name ≡ false
        → position_or_len (bytes_eq other) names ≢ number
    other_number other differs same =
        let here = position-Some (bytes_eq name) names number [] found in
        let named : name ≡ get_or names number [] =
        (bytes_eq-Decides name (get_or names number [])).0 here.1 in
        let passes : bytes_eq other (get_or names number []) ≡ true =
        subst (λ n. bytes_eq other (get_or names n []) ≡ true) same
        (passes_at_first (bytes_eq other) names [] (omega (arith, same, here.0))) in
        true≢false (sym passes ∙ ap (bytes_eq other) (sym named) ∙ differs)

    -- where it has none, one that is set is found by the name
    pub point_at-set : (point : Point) → get_or points number None ≡ None → (other : List ℕ)
        → point_at names (set points number (Some point)) other
        ≡ option_or (point_at names points other) (placed_at ((name, point) ∷ []) other)
    point_at-set point none other = at (bytes_eq other name) refl
      where
        at : (b : Bool) → bytes_eq other name ≡ b
            → point_at names (set points number (Some point)) other
            ≡ option_or (point_at names points other) (cond b (Some point) None)
        at true same =
            let there : position_or_len (bytes_eq other) names ≡ number =
            ap (λ n. position_or_len (bytes_eq n) names) ((bytes_eq-Decides other name).0 same)
            ∙ first_is in
            ap (λ n. get_or (set points number (Some point)) n None) there
            ∙ get_or-set_same points number (Some point) None number_within
            ∙ (λ i. option_or (sym (ap (λ n. get_or points n None) there ∙ none) i) (Some point))
        at false differs =
            get_or-set_other points number (position_or_len (bytes_eq other) names) (Some point)
            None (other_number other differs)
            ∙ sym (option_or-None (point_at names points other))

-- a node that has a point is placed twice
pub node_twice : (number : ℕ) (point : Point) (found : Option Point) → is_some found ≡ true
    → node_fault number (Ok point) found ≡ Some (PlaceTwice number)
node_twice number point None some = cc
node_twice number point (Some before) some = refl

-- one that has none
pub none_found : (found : Option Point) → is_some found ≡ false → found ≡ None
none_found None none = refl
none_found (Some before) none = cc

module _ {old new : Placing} (number : ℕ) (node : format.Node)
    (names : new.wanted ≡ old.wanted) (begun : new.begun ≡ true) where
  -- the line of a node that isn't wanted is passed over
  pub passed_over : is_among old.wanted node.name ≡ false → new.points ≡ old.points
      → TakesLine old new number (Stands node)
  passed_over absent points = record {
    flawless = ap (λ b. cond b (node_fault number (point_of node.x node.y)
        (kept_at old node.name)) None) absent;
    begun = begun ∙ sym (or-true old.begun);
    placed = λ other. (λ i. point_at (names i) (points i) other)
        ∙ sym (option_or-None (kept_at old other))
        ∙ ap (λ b. option_or (kept_at old other) (placed_at (cond b (option_to_list
        (option_map (λ p. (node.name, p)) (result_ok (point_of node.x node.y)))) []) other))
        (sym absent);
  }

  -- and a wanted node is placed, where it has no place
  pub placed_first : (at : ℕ) (point : Point)
      → position (bytes_eq node.name) old.wanted ≡ Some at → point_of node.x node.y ≡ Ok point
      → get_or old.points at None ≡ None → new.points ≡ set old.points at (Some point)
      → TakesLine old new number (Stands node)
  placed_first at point found told none points =
      let there = numbered_among old.wanted node.name at found in
      let first = point_at-number old.wanted old.points old.numbered node.name at found in record {
        flawless = λ i. cond (there i) (node_fault number (told i) ((first ∙ none) i)) None;
        begun = begun ∙ sym (or-true old.begun);
        placed = λ other. (λ i. point_at (names i) (points i) other)
            ∙ point_at-set old.wanted old.points old.numbered node.name at found point none other
            ∙ (λ i. option_or (kept_at old other) (placed_at (cond (sym there i) (option_to_list
            (option_map (λ p. (node.name, p)) (result_ok (sym told i)))) []) other));
      }
