-- Placements in the Bookshelf format (.pl), and what each tells of a circuit: where its registers,
-- its source and its host stand, in millionths, or why the text is refused.
use Rattle.std.specs.Prelude.{◌≡◌, ℕ, ◌+◌, Bool, List, [], ◌∷◌, ◌++◌, length, map, Option, Some, None, Result, Ok, Err, if◌then◌else◌, slice_get}
use Rattle.std.specs.Option.{option_map, option_map_or, option_to_list}
use Rattle.std.specs.Result.{result_map_both, result_ok}
use Rattle.std.specs.List.{list_any}
use Rattle.std.specs.Map.{lookup}
use Rattle.std.specs.Str.{bytes_eq}
use Rattle.cts_base.specs.LineFormats.{first_fault, unless_faulty}
use Rattle.cts_base.specs.Lines.{lines_of}
use Rattle.cts_base.specs.declared.number.NumberFault.{NumberFault}
use Rattle.cts_model.specs.declared.signal.Signal.{Signal}
use Rattle.cts_model.specs.declared.circuit.Circuit.{Circuit}
use Rattle.cts_model.specs.declared.place.Point.{Point}
use Rattle.cts_model.specs.declared.place.Places.{Places}
use Rattle.cts_model.specs.Vocabulary.{is_host, point_of, Entry, Blank, Header, Stands, entry_after}
use Rattle.place_reader.specs.declared.fault.PlaceFault.{PlaceFault}
use Rattle.place_reader.specs.declared.fault.PlaceFault.TheVariants.{BadLine, BadNumber, PlaceTwice, NoPlace, NoSource}

-- the node where a register stands: the one of its name, and for the host the one that is given
abbrev pub node_name : (host : List ℕ) → Signal → List ℕ
node_name host signal = if is_host signal.kind then host else signal.name

-- the nodes of a circuit's registers, in order
abbrev pub register_nodes : Circuit → (host : List ℕ) → List (List ℕ)
register_nodes circuit host =
    map (λ number. option_map_or (node_name host) (slice_get circuit.signals number) [])
    circuit.registers

-- the name is one of these
abbrev pub is_among : List (List ℕ) → List ℕ → Bool
is_among names name = list_any (bytes_eq name) names

-- the nodes that are to have a place
abbrev pub wanted_nodes : Circuit → (source host : List ℕ) → List (List ℕ)
wanted_nodes circuit source host = register_nodes circuit host ++ source ∷ []

-- the name and the point that a line gives, if it gives one
abbrev pub place_by : Option Entry → Option (List ℕ × Point)
place_by (Some (Stands node)) =
    option_map (λ point. (node.name, point)) (result_ok (point_of node.x node.y))
place_by _ = None

-- those that lines give which come after others
abbrev pub places_after : (earlier lines : List (List ℕ)) → List (List ℕ × Point)
places_after earlier [] = []
places_after earlier (line ∷ later) =
    option_to_list (place_by (entry_after earlier line))
    ++ places_after (earlier ++ line ∷ []) later

-- where the node of a name stands by these: the first of the name
abbrev pub placed_at : List (List ℕ × Point) → List ℕ → Option Point
placed_at places name = lookup (bytes_eq name) places

-- what is wrong with the line of a wanted node, if anything is: its numbers are judged first, and
-- then whether the node has a place
abbrev pub node_fault : (number : ℕ) → Result Point NumberFault → (before : Option Point)
    → Option PlaceFault
node_fault number (Err fault) before = Some (BadNumber number fault)
node_fault number (Ok point) None = None
node_fault number (Ok point) (Some before) = Some (PlaceTwice number)

-- what is wrong with the line of this number where nodes stand so by the lines before it
abbrev pub place_entry_fault : (wanted : List ℕ → Bool) → (before : List ℕ → Option Point)
    → (number : ℕ) → Option Entry → Option PlaceFault
place_entry_fault wanted before number None = Some (BadLine number)
place_entry_fault wanted before number (Some Blank) = None
place_entry_fault wanted before number (Some Header) = None
place_entry_fault wanted before number (Some (Stands node)) =
    if wanted node.name
    then node_fault number (point_of node.x node.y) (before node.name) else None

-- what is wrong with a line after the lines before it, if anything is
abbrev pub place_line_fault : (wanted : List ℕ → Bool) → (earlier : List (List ℕ)) → List ℕ
    → Option PlaceFault
place_line_fault wanted earlier line =
    place_entry_fault wanted (placed_at (places_after [] earlier)) (length earlier + 1)
    (entry_after earlier line)

-- the points of registers from this number on, or the first that has none
abbrev pub points_from : (number : ℕ) → List (Option Point) → Result (List Point) PlaceFault
points_from number [] = Ok []
points_from number (None ∷ places) = Err (NoPlace number)
points_from number (Some point ∷ places) =
    result_map_both (λ points. point ∷ points) (λ fault. fault) (points_from (number + 1) places)

-- the places of the registers and of the source
abbrev pub with_source : Result (List Point) PlaceFault → (source : Option Point)
    → Result Places PlaceFault
with_source (Err fault) source = Err fault
with_source (Ok points) None = Err NoSource
with_source (Ok points) (Some source) = Ok (record { source = source; registers = points })

-- what a text tells of a circuit
unfoldable pub places_in : (text : List ℕ) → Circuit → (source host : List ℕ)
    → Result Places PlaceFault
places_in text circuit source host =
    let places = places_after [] (lines_of text) in
    unless_faulty (first_fault (place_line_fault (is_among
    (wanted_nodes circuit source host))) text)
    (with_source (points_from 0 (map (placed_at places) (register_nodes circuit host)))
    (placed_at places source))

-- the text is a placement of the circuit's registers and of the source, and tells these places
abbrev pub AcceptsPlacement : (text : List ℕ) → Circuit → (source host : List ℕ) → Places → Type 0
AcceptsPlacement text circuit source host places = places_in text circuit source host ≡ Ok places

-- it is one
abbrev pub IsPlacement : (text : List ℕ) → Circuit → (source host : List ℕ) → Type 0
IsPlacement text circuit source host =
    (places : Places) × AcceptsPlacement text circuit source host places

-- it is refused so
abbrev pub RefusesPlacement : (text : List ℕ) → Circuit → (source host : List ℕ) → PlaceFault
    → Type 0
RefusesPlacement text circuit source host fault = places_in text circuit source host ≡ Err fault
