-- The least of the names in a document that are no keys.
use Rattle.delay_tables.proofs.Vocabulary.{◌≡◌, ℕ, ◌+◌, ◌<◌, Bool, true, false, not, ◌||◌, cond, List, [], ◌∷◌, ◌++◌, length, drop, get_or, map, Bor, Option, None, codes, String, Global, string_bytes, refl, sym, ap, ◌∙◌, drop_more, fold, flat_map, list_any, Members, members_view, dotted, names_in, unknown_of, unknown_at, unknown_in_section, unknown_names, lesser_name, least_name, texts, keys_of}
use Rattle.std.proofs.lemmas.List.Sums.{fold-append}
use Rattle.std.proofs.lemmas.Grind.{flat_map-append}
use Rattle.std.specs.Map as maps
use Rattle.std.specs.Str.{bytes_eq}
use Rattle.toml.specs.declared.value.Value.{Value}
use Rattle.cts_model.specs.table.TableKeys as tables
use Rattle.delay_tables.specs.declared.keys.Key.{Key}

known_is : (name : List ℕ) (known : List (Bor (List ℕ)))
    → list_any (bytes_eq name) (texts known) ≡ list_any (λ other. bytes_eq name other.now) known
known_is name [] = refl
known_is name (other ∷ known) = ap (λ among. bytes_eq name other.now || among) (known_is name known)

passed : (least : Option (List ℕ)) (way : List (List ℕ)) (name : List ℕ) (among : Bool)
    → among ≡ true
    → least ≡ fold lesser_name least (map (dotted way) (cond (not among) (name ∷ []) []))
passed least way name true is = refl
passed least way name false is = cc

taken : (least : Option (List ℕ)) (way : List (List ℕ)) (name : List ℕ) (among : Bool)
    → among ≡ false → lesser_name least (dotted way name)
    ≡ fold lesser_name least (map (dotted way) (cond (not among) (name ∷ []) []))
taken least way name true is = cc
taken least way name false is = refl

-- a known name changes nothing
pub known_passed : (least : Option (List ℕ)) (way : List (List ℕ)) (name : List ℕ)
    (known : List (Bor (List ℕ))) → list_any (λ other. bytes_eq name other.now) known ≡ true
    → least ≡ fold lesser_name least (unknown_of way (texts known) (name ∷ []))
known_passed least way name known is =
    passed least way name (list_any (bytes_eq name) (texts known)) (known_is name known ∙ is)

-- an unknown one is compared
pub unknown_taken : (least : Option (List ℕ)) (way : List (List ℕ)) (name : List ℕ)
    (known : List (Bor (List ℕ))) → list_any (λ other. bytes_eq name other.now) known ≡ false
    → lesser_name least (dotted way name)
    ≡ fold lesser_name least (unknown_of way (texts known) (name ∷ []))
unknown_taken least way name known is =
    taken least way name (list_any (bytes_eq name) (texts known)) (known_is name known ∙ is)

first_apart : (least : Option (List ℕ)) (way : List (List ℕ)) (name : List ℕ) (rest : List (List ℕ))
    (among : Bool) → fold lesser_name least (map (dotted way) (cond (not among) (name ∷ rest) rest))
    ≡ fold lesser_name (fold lesser_name least (map (dotted way) (cond (not among) (name ∷ []) [])))
    (map (dotted way) rest)
first_apart least way name rest true = refl
first_apart least way name rest false = refl

-- the first of some names, and then the others
pub unknown_of-cons : (least : Option (List ℕ)) (way known : List (List ℕ)) (name : List ℕ)
    (names : List (List ℕ))
    → fold lesser_name least (unknown_of way known (name ∷ names)) ≡ fold lesser_name
    (fold lesser_name least (unknown_of way known (name ∷ []))) (unknown_of way known names)
unknown_of-cons least way known name names =
    first_apart least way name _ (list_any (bytes_eq name) known)

-- the names in a table are the keys of its map
pub names_of_keys : (entries : List (String Global × Value))
    → names_in (members_view entries) ≡ map string_bytes (maps.keys_of entries)
names_of_keys [] = refl
names_of_keys (entry ∷ entries) = ap (λ names. string_bytes entry.0 ∷ names) (names_of_keys entries)

-- the least with the names of one item more
pub least_more : {X Y : Type 0} (view : X → Y) (unknown : Y → List (List ℕ))
    (least : Option (List ℕ)) (xs : List X) (place : ℕ) (other : X) → place < length xs
    → fold lesser_name least (flat_map unknown (map view (drop place xs)))
    ≡ fold lesser_name (fold lesser_name least (unknown (view (get_or xs place other))))
    (flat_map unknown (map view (drop (place + 1) xs)))
least_more view unknown least xs place other within =
    ap (λ rest. fold lesser_name least (flat_map unknown (map view rest)))
    (drop_more xs place other within)
    ∙ fold-append lesser_name least (unknown (view (get_or xs place other)))
    (flat_map unknown (map view (drop (place + 1) xs)))

-- what the names that are left give stays
pub least_next : (least next : Option (List ℕ)) (way known : List (List ℕ)) (name : List ℕ)
    (names all : List (List ℕ)) (total : Option (List ℕ))
    → next ≡ fold lesser_name least (unknown_of way known (name ∷ [])) → all ≡ name ∷ names
    → fold lesser_name least (unknown_of way known all) ≡ total
    → fold lesser_name next (unknown_of way known names) ≡ total
least_next least next way known name names all total is first so_far =
    ap (λ start. fold lesser_name start (unknown_of way known names)) is
    ∙ (sym (unknown_of-cons least way known name names)
    ∙ (ap (λ left. fold lesser_name least (unknown_of way known left)) (sym first) ∙ so_far))

-- the names of keys are those that the definition has
pub key_names_are : (keys : List Key)
    → texts (map (λ (key : Key). key.name) keys)
    ≡ map (λ (key : tables.Key). key.name) (keys_of keys)
key_names_are [] = refl
key_names_are (key ∷ keys) = ap (λ names. key.name.now ∷ names) (key_names_are keys)

-- the tables in the order in which they are gone through give the least of all
pub least_of_all : (document : Members) (at_top gate top_key all : Option (List ℕ))
    → at_top ≡ fold lesser_name None (unknown_at [] tables.top_names document)
    → gate ≡ fold lesser_name at_top
    (unknown_at (codes "gate" ∷ []) (map tables.word_of tables.gate_kinds) document)
    → top_key ≡ fold lesser_name gate (flat_map (unknown_in_section document) tables.top_sections)
    → all ≡ fold lesser_name top_key
    (flat_map (unknown_in_section document) (map tables.gate_section tables.gate_kinds))
    → all ≡ least_name (unknown_names document)
unfolding tables.sections
least_of_all document at_top gate top_key all at_top_is gate_is top_key_is all_is =
    let unknown = unknown_in_section document in
    let top_names = unknown_at [] tables.top_names document in
    let gate_names =
    unknown_at (codes "gate" ∷ []) (map tables.word_of tables.gate_kinds) document in
    let gates = flat_map unknown (map tables.gate_section tables.gate_kinds) in
    let over_gates = λ (least : Option (List ℕ)). fold lesser_name least gates in
    let over_sections =
    λ (least : Option (List ℕ)). fold lesser_name least (flat_map unknown tables.top_sections) in
    let over_names = λ (least : Option (List ℕ)). fold lesser_name least gate_names in
    all_is
    ∙ (ap over_gates (top_key_is ∙ ap over_sections
    (gate_is ∙ ap over_names at_top_is ∙ sym (fold-append lesser_name None top_names gate_names)))
    ∙ (sym (fold-append lesser_name (fold lesser_name None (top_names ++ gate_names))
    (flat_map unknown tables.top_sections) gates)
    ∙ (ap (fold lesser_name (fold lesser_name None (top_names ++ gate_names)))
    (sym (flat_map-append unknown tables.top_sections (map tables.gate_section tables.gate_kinds)))
    ∙ sym (fold-append lesser_name None (top_names ++ gate_names)
    (flat_map unknown tables.sections)))))
