-- What a document in which nothing is wrong gives is within the ranges of a delay table.
use Rattle.delay_tables.proofs.Vocabulary.{◌≡◌, ℕ, ℤ, pos, negsuc, ◌≤ℤ◌, Bool, true, false, not, cond, ◌&&◌, ◌||◌, zero, suc, List, [], ◌∷◌, map, codes, Option, Some, None, IfSome, is_some, is_none, IsTrue, get_or, unwrap_or, int_lt, refl, sym, ap, ◌∙◌, arith, leb-true, false≢true, ints, All, AllByRecursion, option_or, option_and_then, option_map_or, Data, Members, as_str, as_integer, get_member, And, Nand, Or, Nor, Not, Xor, Xnor, Buff, Input, Dff, Host, Tech, GivesKinds, IsWithin, IsGateDelay, Fraction, UpTo, Need, Always, InTable, Optional, Key, Section, key, sections, top_sections, gate_section, gate_kinds, gate_way, word_of, dotted, value_at, table_at, text_at, number_at, is_fraction, is_small_fraction, is_up_to, has_form, is_in_range, gate_delay_at, TableFlaw, WrongType, first_flaw, value_flaw, absence_flaw, key_flaw, way_flaw, section_flaw, register_flaw, gate_flaw, is_disordered, order_flaw, kind_flaw, name_flaw, table_flaw}
use Rattle.std.proofs.lemmas.List.Elements.{All-from_recursion}
use Rattle.cts_model.specs.declared.kind.Kind.{Kind}
use Rattle.cts_model.specs.Vocabulary.{is_gate, place_of, no_delay}
use Rattle.delay_tables.proofs.Judgements.{flaws-sections}
use Rattle.cts_model.specs.table.TableFlaws.{Missing, OutOfRange, LeastAboveGreatest, MissingKind}

-- where neither is, the first isn't, and the second isn't
neither : (first second : Option TableFlaw) → option_or first second ≡ None
    → (first ≡ None) × (second ≡ None)
neither None second none = (refl, none)
neither (Some flaw) second none = cc

not_chosen : (test : Bool) (flaw : TableFlaw) (next : Option TableFlaw)
    → cond test (Some flaw) next ≡ None → (test ≡ false) × (next ≡ None)
not_chosen true flaw next none = cc
not_chosen false flaw next none = (refl, none)

was_true : (test : Bool) → not test ≡ false → test ≡ true
was_true true is = refl
was_true false is = sym is

-- a value at which nothing is wrong has the form of its key and is in its range
fitting : (key : Key) (name : List ℕ) (value : Data) → value_flaw key name value ≡ None
    → (has_form key.form value ≡ true) × (is_in_range key.form value ≡ true)
fitting key name value none =
    let form = not_chosen (not (has_form key.form value)) (WrongType name)
    (cond (not (is_in_range key.form value)) (Some (OutOfRange name)) None) none in
    let range = not_chosen (not (is_in_range key.form value)) (OutOfRange name) None form.1 in
    (was_true (has_form key.form value) form.0, was_true (is_in_range key.form value) range.0)

number_is : (most : ℕ) (number : ℤ) → is_up_to most number ≡ true → IsWithin 0 most number
number_is most (pos number) passes =
    let small = leb-true number most passes in
    record { above = omega (arith, ints); below = omega (arith, ints) }
number_is most (negsuc number) passes = cc

zero_is : (most : ℕ) → IsWithin 0 most (pos 0)
zero_is most = record { above = omega (arith, ints); below = omega (arith, ints) }

number_in : (most : ℕ) (number : Option ℤ) → option_map_or (is_up_to most) number false ≡ true
    → IsWithin 0 most (unwrap_or number (pos 0))
number_in most None passes = cc
number_in most (Some number) passes = number_is most number passes

number_of_value : (most : ℕ) (need : Need) (name dotted_name : List ℕ) (value : Option Data)
    (absent : Option TableFlaw)
    → option_map_or (value_flaw (key name (UpTo most) need) dotted_name) value absent ≡ None
    → IsWithin 0 most (unwrap_or (option_and_then as_integer value) (pos 0))
number_of_value most need name dotted_name None absent none = zero_is most
number_of_value most need name dotted_name (Some value) absent none =
    number_in most (as_integer value) (fitting (key name (UpTo most) need) dotted_name value none).1

-- a number at a key at which nothing is wrong is in its range
number_within : (way : List (List ℕ)) (document : Members) (name : List ℕ) (most : ℕ) (need : Need)
    → key_flaw way document (key name (UpTo most) need) ≡ None
    → IsWithin 0 most (number_at way name document)
number_within way document name most need none =
    number_of_value most need name (dotted way name) (value_at way name document)
    (absence_flaw (key name (UpTo most) need) (dotted way name) (is_some (table_at way document)))
    none

fraction_in : (text : Option (List ℕ)) → option_map_or is_fraction text false ≡ true
    → option_map_or is_small_fraction text false ≡ true
    → (is_fraction (unwrap_or text []) ≡ true) × (is_small_fraction (unwrap_or text []) ≡ true)
fraction_in None form small = cc
fraction_in (Some text) form small = (form, small)

fraction_of_value : (name dotted_name : List ℕ) (value : Option Data)
    → option_map_or (value_flaw (key name Fraction Always) dotted_name) value
    (Some (Missing dotted_name)) ≡ None
    → (is_fraction (unwrap_or (option_and_then as_str value) []) ≡ true)
    × (is_small_fraction (unwrap_or (option_and_then as_str value) []) ≡ true)
fraction_of_value name dotted_name None none = absurd (cc none)
fraction_of_value name dotted_name (Some value) none =
    let fits = fitting (key name Fraction Always) dotted_name value none in
    fraction_in (as_str value) fits.0 fits.1

-- the item at a place
abbrev item_at : {X : Type 0} → List X → ℕ → Option X
item_at [] place = None
item_at (x ∷ xs) zero = Some x
item_at (x ∷ xs) (suc place) = item_at xs place

-- where no flaw is first, none is at any place
none_at : {X : Type 0} (flaw : X → Option TableFlaw) (xs : List X) (place : ℕ)
    → first_flaw flaw xs ≡ None → IfSome (item_at xs place) (λ x. flaw x ≡ None)
none_at flaw [] place none = tt
none_at flaw (x ∷ xs) zero none = (neither (flaw x) (first_flaw flaw xs) none).0
none_at flaw (x ∷ xs) (suc place) none =
    none_at flaw xs place (neither (flaw x) (first_flaw flaw xs) none).1

key_in_section : (document : Members) (section : Section) (place : ℕ)
    → section_flaw document section ≡ None
    → IfSome (item_at section.keys place) (λ here. key_flaw section.way document here ≡ None)
key_in_section document section place none =
    none_at (key_flaw section.way document) section.keys place
    (neither (way_flaw [] section.way document)
    (first_flaw (key_flaw section.way document) section.keys) none).1

key_in : (document : Members) (tables : List Section) (place key_place : ℕ)
    → first_flaw (section_flaw document) tables ≡ None → IfSome (item_at tables place) (λ section.
    IfSome (item_at section.keys key_place) (λ here. key_flaw section.way document here ≡ None))
key_in document [] place key_place none = tt
key_in document (section ∷ tables) zero key_place none = key_in_section document section key_place
    (neither (section_flaw document section) (first_flaw (section_flaw document) tables) none).0
key_in document (section ∷ tables) (suc place) key_place none =
    key_in document tables place key_place
    (neither (section_flaw document section) (first_flaw (section_flaw document) tables) none).1

-- the numbers and the fraction of the tables at the top are in their ranges
pub record IsTopWithin (document : Members) : Type 0 where
  pub form : is_fraction (text_at (codes "wire" ∷ []) (codes "delay") document) ≡ true
  pub small : is_small_fraction (text_at (codes "wire" ∷ []) (codes "delay") document) ≡ true
  pub setup : IsWithin 0 1000000 (number_at (codes "register" ∷ []) (codes "setup") document)
  pub hold : IsWithin 0 1000000 (number_at (codes "register" ∷ []) (codes "hold") document)
  pub least : IsWithin 0 1000000 (number_at (codes "register" ∷ []) (codes "least") document)
  pub greatest : IsWithin 0 1000000 (number_at (codes "register" ∷ []) (codes "greatest") document)
  pub floor : IsWithin 0 1000000000 (number_at (codes "period" ∷ []) (codes "floor") document)

top_within : (document : Members) → first_flaw (section_flaw document) top_sections ≡ None
    → IsTopWithin document
unfolding top_sections
top_within document none =
    let wire = fraction_of_value (codes "delay") (dotted (codes "wire" ∷ []) (codes "delay"))
    (value_at (codes "wire" ∷ []) (codes "delay") document)
    (key_in document top_sections 0 0 none) in
    record {
      form = wire.0;
      small = wire.1;
      setup = number_within (codes "register" ∷ []) document (codes "setup") 1000000 Always
          (key_in document top_sections 2 0 none);
      hold = number_within (codes "register" ∷ []) document (codes "hold") 1000000 Always
          (key_in document top_sections 2 1 none);
      least = number_within (codes "register" ∷ []) document (codes "least") 1000000 Always
          (key_in document top_sections 2 2 none);
      greatest = number_within (codes "register" ∷ []) document (codes "greatest") 1000000 Always
          (key_in document top_sections 2 3 none);
      floor = number_within (codes "period" ∷ []) document (codes "floor") 1000000000 Optional
          (key_in document top_sections 4 0 none);
    }

-- the tables at the top have no flaw, nor have those of gate kinds
sections_within : (document : Members) → first_flaw (section_flaw document) sections ≡ None
    → (first_flaw (section_flaw document) top_sections ≡ None)
    × (first_flaw (section_flaw document) (map gate_section gate_kinds) ≡ None)
sections_within document none =
    neither (first_flaw (section_flaw document) top_sections)
    (first_flaw (section_flaw document) (map gate_section gate_kinds))
    (sym (flaws-sections document) ∙ none)

pub is_top_within : (document : Members) → first_flaw (section_flaw document) sections ≡ None
    → IsTopWithin document
is_top_within document none = top_within document (sections_within document none).0

ordered : (way : List (List ℕ)) (least greatest : List ℕ) (document : Members)
    → is_disordered way least greatest document ≡ false
    → number_at way least document ≤ℤ number_at way greatest document
ordered way least greatest document is =
    at_least (number_at way greatest document) (number_at way least document) is
  where
    at_least : (greater less : ℤ) → int_lt greater less ≡ false → less ≤ℤ greater
    at_least greater less fails = grind (arith, ints)

pub registers_ordered : (document : Members) → register_flaw document ≡ None
    → number_at (codes "register" ∷ []) (codes "least") document
    ≤ℤ number_at (codes "register" ∷ []) (codes "greatest") document
registers_ordered document none =
    ordered (codes "register" ∷ []) (codes "least") (codes "greatest") document
    (not_chosen (is_disordered (codes "register" ∷ []) (codes "least") (codes "greatest") document)
    (LeastAboveGreatest (codes "register")) None none).0

neither_holds : (first second : Bool) → (first || second) ≡ false
    → (first ≡ false) × (second ≡ false)
neither_holds true second fails = cc
neither_holds false second fails = (refl, fails)

zero_of_table : (name : List ℕ) (table : Option Members) → is_some table ≡ false
    → unwrap_or (option_and_then as_integer (option_and_then (get_member name) table)) (pos 0)
    ≡ pos 0
zero_of_table name None absent = refl
zero_of_table name (Some table) absent = cc

-- a gate kind at which nothing is wrong has delays in their ranges
gate_within : (document : Members) (kind : Kind) → section_flaw document (gate_section kind) ≡ None
    → gate_flaw document kind ≡ None → IsGateDelay (gate_delay_at document kind)
gate_within document kind none in_order =
    let way = gate_way kind in
    let orders = neither_holds (is_disordered way (codes "least") (codes "greatest") document)
    (is_disordered way (codes "least_per_input") (codes "greatest_per_input") document)
    (not_chosen _ (LeastAboveGreatest (word_of kind)) None in_order).0 in
    record {
      least = number_within way document (codes "least") 1000000 InTable
          (key_in_section document (gate_section kind) 0 none);
      greatest = number_within way document (codes "greatest") 1000000 InTable
          (key_in_section document (gate_section kind) 1 none);
      least_per_input = number_within way document (codes "least_per_input") 1000 Optional
          (key_in_section document (gate_section kind) 2 none);
      greatest_per_input = number_within way document (codes "greatest_per_input") 1000 Optional
          (key_in_section document (gate_section kind) 3 none);
      ordered = ordered way (codes "least") (codes "greatest") document orders.0;
      ordered_per_input =
          ordered way (codes "least_per_input") (codes "greatest_per_input") document orders.1;
      zero_least = zero_of_table (codes "least") (table_at way document);
      zero_greatest = zero_of_table (codes "greatest") (table_at way document);
      zero_least_per_input = zero_of_table (codes "least_per_input") (table_at way document);
      zero_greatest_per_input = zero_of_table (codes "greatest_per_input") (table_at way document);
    }

each_within : (document : Members) (kinds : List Kind)
    → first_flaw (section_flaw document) (map gate_section kinds) ≡ None
    → first_flaw (gate_flaw document) kinds ≡ None
    → AllByRecursion IsGateDelay (map (gate_delay_at document) kinds)
each_within document [] none in_order = tt
each_within document (kind ∷ kinds) none in_order =
    let here = neither (section_flaw document (gate_section kind))
    (first_flaw (section_flaw document) (map gate_section kinds)) none in
    let order =
    neither (gate_flaw document kind) (first_flaw (gate_flaw document) kinds) in_order in
    (gate_within document kind here.0 order.0, each_within document kinds here.1 order.1)

pub gates_within : (document : Members) → first_flaw (section_flaw document) sections ≡ None
    → first_flaw (gate_flaw document) gate_kinds ≡ None
    → All IsGateDelay (map (gate_delay_at document) gate_kinds)
gates_within document none in_order =
    All-from_recursion IsGateDelay (map (gate_delay_at document) gate_kinds)
    (each_within document gate_kinds (sections_within document none).1 in_order)

-- the registers' delays are in order, and those of gate kinds
pub orders : (document : Members) → order_flaw document ≡ None
    → (register_flaw document ≡ None) × (first_flaw (gate_flaw document) gate_kinds ≡ None)
orders document none =
    neither (register_flaw document) (first_flaw (gate_flaw document) gate_kinds) none

-- a flawless table has no flaw at its keys, in its order and in the kinds that it gives
pub record IsFlawless (used : List Bool) (document : Members) : Type 0 where
  pub keys : first_flaw (section_flaw document) sections ≡ None
  pub order : order_flaw document ≡ None
  pub kinds : first_flaw (kind_flaw used document) gate_kinds ≡ None

pub is_flawless : (used : List Bool) (document : Members) → table_flaw used document ≡ None
    → IsFlawless used document
unfolding table_flaw
is_flawless used document none =
    let keys = neither (first_flaw (section_flaw document) sections)
    (option_or (order_flaw document)
    (option_or (first_flaw (kind_flaw used document) gate_kinds) (name_flaw document))) none in
    let order = neither (order_flaw document)
    (option_or (first_flaw (kind_flaw used document) gate_kinds) (name_flaw document)) keys.1 in
    let kinds =
    neither (first_flaw (kind_flaw used document) gate_kinds) (name_flaw document) order.1 in
    record { keys = keys.0; order = order.0; kinds = kinds.0 }

-- what is at a gate kind's place
at_kind : {X : Type 0} (denoted : Kind → X) (other : X) (kind : Kind) → IsTrue (is_gate kind)
    → get_or (map denoted gate_kinds) (place_of kind) other ≡ denoted kind
at_kind denoted other And gate = refl
at_kind denoted other Nand gate = refl
at_kind denoted other Or gate = refl
at_kind denoted other Nor gate = refl
at_kind denoted other Not gate = refl
at_kind denoted other Xor gate = refl
at_kind denoted other Xnor gate = refl
at_kind denoted other Buff gate = refl
at_kind denoted other Input gate = absurd (false≢true gate)
at_kind denoted other Dff gate = absurd (false≢true gate)
at_kind denoted other Host gate = absurd (false≢true gate)

kind_none : (flaw : Kind → Option TableFlaw) (kind : Kind) → IsTrue (is_gate kind)
    → first_flaw flaw gate_kinds ≡ None → flaw kind ≡ None
kind_none flaw And gate none = none_at flaw gate_kinds 0 none
kind_none flaw Nand gate none = none_at flaw gate_kinds 1 none
kind_none flaw Or gate none = none_at flaw gate_kinds 2 none
kind_none flaw Nor gate none = none_at flaw gate_kinds 3 none
kind_none flaw Not gate none = none_at flaw gate_kinds 4 none
kind_none flaw Xor gate none = none_at flaw gate_kinds 5 none
kind_none flaw Xnor gate none = none_at flaw gate_kinds 6 none
kind_none flaw Buff gate none = none_at flaw gate_kinds 7 none
kind_none flaw Input gate none = absurd (false≢true gate)
kind_none flaw Dff gate none = absurd (false≢true gate)
kind_none flaw Host gate none = absurd (false≢true gate)

not_lacking : (uses : Bool) (table : Option Members) → (uses && is_none table) ≡ false → uses ≡ true
    → is_some table ≡ true
not_lacking true (Some table) lacks used = refl
not_lacking true None lacks used = sym lacks
not_lacking false table lacks used = cc

-- a flawless table gives each gate kind that is used
pub gives_kinds : (used : List Bool) (document : Members) (tech : Tech)
    → table_flaw used document ≡ None → tech.gates ≡ map (gate_delay_at document) gate_kinds
    → GivesKinds used tech
gives_kinds used document tech none gates_are kind gate uses =
    let flawless = is_flawless used document none in
    let lacks = kind_none (kind_flaw used document) kind gate flawless.kinds in
    let given = not_lacking (get_or used (place_of kind) false) (table_at (gate_way kind) document)
    (not_chosen _ (MissingKind kind) None lacks).0 uses in
    let delay : get_or tech.gates (place_of kind) no_delay ≡ gate_delay_at document kind
    = ap (λ gates. get_or gates (place_of kind) no_delay) gates_are
    ∙ at_kind (gate_delay_at document) no_delay kind gate in
    ap (λ delay. delay.given) delay ∙ given
