-- What can be wrong with a delay table, in the order in which it is judged: the keys one after the
-- other, least delays above the greatest, gate kinds of the netlist that aren't given, and names
-- that are no keys.
use Rattle.std.specs.Prelude.{ℕ, Bool, true, false, not, ◌&&◌, ◌||◌, int_lt, List, [], ◌∷◌, ◌++◌, map, filter, Option, Some, None, is_some, is_none, option_map, if◌then◌else◌, slice_index_or, codes}
use Rattle.std.specs.Option.{option_or, option_map_or}
use Rattle.std.specs.List.{list_any, fold, flat_map}
use Rattle.std.specs.Str.{bytes_eq}
use Rattle.std.specs.Ordering.{nat_cmp, is_lt}
use Rattle.std.specs.Cmp.Lexicographic.{slice_cmp}
use Rattle.toml.specs.Data.{Data, Members, no_members, member, as_table}
use Rattle.cts_model.specs.Types.{Kind}
use Rattle.cts_model.specs.netlist.Kinds.{place_of}
use Rattle.cts_model.specs.table.TableKeys.{Need, Always, InTable, Optional, Key, Section, sections, gate_kinds, gate_way, word_of, top_names}
use Rattle.cts_model.specs.table.TableValues.{dotted, table_at, value_at, number_at, has_form, is_in_range}

-- what is wrong with a table. Names are dotted
pub data TableFlaw : Type 0 where
  Missing : (name : List ℕ) → TableFlaw
  WrongType : (name : List ℕ) → TableFlaw
  OutOfRange : (name : List ℕ) → TableFlaw
  LeastAboveGreatest : (name : List ℕ) → TableFlaw
  MissingKind : (kind : Kind) → TableFlaw
  UnknownKey : (name : List ℕ) → TableFlaw

-- the first flaw of some, judged in order
abbrev pub first_flaw : {X : Type 0} → (X → Option TableFlaw) → List X → Option TableFlaw
first_flaw flaw [] = None
first_flaw flaw (x ∷ xs) = option_or (flaw x) (first_flaw flaw xs)

-- something stands there that is no table
abbrev pub is_no_table : Option Data → Bool
is_no_table value = option_map_or (λ data_there. is_none (as_table data_there)) value false

-- the first name on the way to a table, after those passed, that is there and is no table
abbrev pub way_flaw : List (List ℕ) → List (List ℕ) → Members → Option TableFlaw
way_flaw passed [] document = None
way_flaw passed (name ∷ way) document =
    if is_no_table (value_at passed name document) then Some (WrongType (dotted passed name))
    else way_flaw (passed ++ name ∷ []) way document

-- a key has to be given, where its table is there or not
abbrev pub is_needed : Need → Bool → Bool
is_needed Always there = true
is_needed InTable there = there
is_needed Optional there = false

-- what is wrong with a value at a key of this dotted name
abbrev pub value_flaw : Key → List ℕ → Data → Option TableFlaw
value_flaw key name value =
    if not (has_form key.form value) then Some (WrongType name)
    else if not (is_in_range key.form value) then Some (OutOfRange name)
    else None

-- what is wrong where nothing stands at a key
abbrev pub absence_flaw : Key → List ℕ → Bool → Option TableFlaw
absence_flaw key name there = if is_needed key.need there then Some (Missing name) else None

-- what is wrong at a key of a table
abbrev pub key_flaw : List (List ℕ) → Members → Key → Option TableFlaw
key_flaw way document key =
    option_map_or (value_flaw key (dotted way key.name)) (value_at way key.name document)
    (absence_flaw key (dotted way key.name) (is_some (table_at way document)))

-- what is wrong first in a table with its keys
abbrev pub section_flaw : Members → Section → Option TableFlaw
section_flaw document section =
    option_or (way_flaw [] section.way document)
    (first_flaw (key_flaw section.way document) section.keys)

-- a least number is above its greatest
abbrev pub is_disordered : List (List ℕ) → List ℕ → List ℕ → Members → Bool
is_disordered way least greatest document =
    int_lt (number_at way greatest document) (number_at way least document)

-- the least delay of registers is above the greatest
abbrev pub register_flaw : Members → Option TableFlaw
register_flaw document =
    if is_disordered (codes "register" ∷ []) (codes "least") (codes "greatest") document
    then Some (LeastAboveGreatest (codes "register"))
    else None

-- a least number of a gate kind is above its greatest
abbrev pub gate_flaw : Members → Kind → Option TableFlaw
gate_flaw document kind =
    let way = gate_way kind in
    if is_disordered way (codes "least") (codes "greatest") document
    || is_disordered way (codes "least_per_input") (codes "greatest_per_input") document
    then Some (LeastAboveGreatest (word_of kind))
    else None

-- the first least number that is above its greatest, the registers' before those of gate kinds
abbrev pub order_flaw : Members → Option TableFlaw
order_flaw document =
    option_or (register_flaw document) (first_flaw (gate_flaw document) gate_kinds)

-- the netlist uses a gate kind that has no table
abbrev pub kind_flaw : List Bool → Members → Kind → Option TableFlaw
kind_flaw used document kind =
    if slice_index_or used (place_of kind) false && is_none (table_at (gate_way kind) document)
    then Some (MissingKind kind)
    else None

-- the names in a table
abbrev pub names_in : Members → List (List ℕ)
names_in no_members = []
names_in (member name value members) = name ∷ names_in members

-- those of the names in a table that are none of these, dotted
abbrev pub unknown_of : List (List ℕ) → List (List ℕ) → List (List ℕ) → List (List ℕ)
unknown_of way known names =
    map (dotted way) (filter (λ name. not (list_any (bytes_eq name) known)) names)

-- the same of the table that some names lead to
abbrev pub unknown_at : List (List ℕ) → List (List ℕ) → Members → List (List ℕ)
unknown_at way known document =
    unknown_of way known (option_map_or names_in (table_at way document) [])

-- the names in a table that aren't its keys
abbrev pub unknown_in_section : Members → Section → List (List ℕ)
unknown_in_section document section =
    unknown_at section.way (map (λ key. key.name) section.keys) document

-- the dotted names in the document that are no keys and no tables of keys. What stands in such a
-- table isn't listed
abbrev pub unknown_names : Members → List (List ℕ)
unknown_names document =
    unknown_at [] top_names document
    ++ unknown_at (codes "gate" ∷ []) (map word_of gate_kinds) document
    ++ flat_map (unknown_in_section document) sections

-- the lesser of two names in the order of their bytes, where there are two
abbrev pub lesser_name : Option (List ℕ) → List ℕ → Option (List ℕ)
lesser_name None name = Some name
lesser_name (Some least) name = Some (if is_lt (slice_cmp nat_cmp name least) then name else least)

abbrev pub least_name : List (List ℕ) → Option (List ℕ)
least_name names = fold lesser_name None names

-- what is wrong with the first name of all that is no key
abbrev pub name_flaw : Members → Option TableFlaw
name_flaw document = option_map UnknownKey (least_name (unknown_names document))

-- the first flaw of a table, with a netlist that uses these gate kinds
unfoldable pub table_flaw : List Bool → Members → Option TableFlaw
table_flaw used document =
    option_or (first_flaw (section_flaw document) sections)
    (option_or (order_flaw document)
    (option_or (first_flaw (kind_flaw used document) gate_kinds)
    (name_flaw document)))
