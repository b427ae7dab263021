-- What the reader keeps of the lines so far, and what a line changes.
use Rattle.std.specs.Prelude.{◌≡◌, ℕ, Bool, ◌||◌, List, [], Option, Some, None, if◌then◌else◌, IsTrue, slice_index_or}
use Rattle.std.specs.List.{position_or_len}
use Rattle.std.specs.Option.{option_or, option_to_list}
use Rattle.std.specs.Str.{bytes_eq}
use Rattle.cts_model.specs.declared.place.Point.{Point}
use Rattle.cts_model.specs.Vocabulary.{Entry, Blank, Header, Stands, has_begun}
use Rattle.place_reader.specs.declared.placing.Placing.{Placing}
use Rattle.place_reader.specs.View.{is_written}
use Rattle.place_reader.specs.Placements.{place_entry_fault, is_among, place_by, placed_at, places_after}

-- where the node of a name stands by the points of numbered nodes, if it does
abbrev pub point_at : (names : List (List ℕ)) → List (Option Point) → List ℕ → Option Point
point_at names points name = slice_index_or points (position_or_len (bytes_eq name) names) None

-- the same by what is kept
abbrev pub kept_at : Placing → List ℕ → Option Point
kept_at placing = point_at placing.wanted placing.points

-- the wanted nodes stand at the same places
abbrev pub AreSamePlaces : (wanted : List ℕ → Bool) → (place other : List ℕ → Option Point) → Type 0
AreSamePlaces wanted place other = (name : List ℕ) → IsTrue (wanted name) → place name ≡ other name

-- this is what the start has become by the lines: of the places those of the wanted nodes are kept
pub record HasTaken (start placing : Placing) (lines : List (List ℕ)) : Type 0 where
  pub wanted : placing.wanted ≡ start.wanted
  pub begun : placing.begun ≡ has_begun lines
  pub places :
      AreSamePlaces (is_among start.wanted) (kept_at placing) (placed_at (places_after [] lines))

-- the place that a line gives, where its node is wanted
abbrev pub wanted_place : (wanted : List ℕ → Bool) → Entry → List (List ℕ × Point)
wanted_place wanted Blank = []
wanted_place wanted Header = []
wanted_place wanted (Stands node) =
    if wanted node.name then option_to_list (place_by (Some (Stands node))) else []

-- nothing is wrong with the line of this number, and it is taken in
pub record TakesLine (old new : Placing) (number : ℕ) (entry : Entry) : Type 0 where
  pub flawless : place_entry_fault (is_among old.wanted) (kept_at old) number (Some entry) ≡ None
  pub begun : new.begun ≡ (old.begun || is_written entry)
  pub placed : (name : List ℕ) → kept_at new name
      ≡ option_or (kept_at old name) (placed_at (wanted_place (is_among old.wanted) entry) name)
