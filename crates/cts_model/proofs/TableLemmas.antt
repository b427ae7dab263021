-- The first flaw of a delay table, in words: the least of the names that no key has, and the first
-- that is out of order.
use Rattle.cts_model.proofs.Vocabulary.{◌≡◌, ◌⊎◌, inl, inr, ℕ, zero, suc, ◌<ℤ◌, ℤ, Bool, true, false, cond, ◌||◌, int_lt, List, [], ◌∷◌, ◌++◌, Option, Some, None, codes, refl, sym, ap, subst, ◌∙◌, arith, ◌&&◌, option_map, IfSome, is_some, is_none, not, fold, option_map_or, option_or, ints, All-nil, All-cons, All-head, All-tail, All-weaker, Kind, place_of}
use Rattle.std.proofs.Common.{All, Contains}
use Rattle.std.specs.Prelude.{◌↔◌, slice_index_or}
use Rattle.std.specs.Cmp.Lexicographic.{slice_cmp}
use Rattle.std.specs.declared.cmp.Ordering.{Ordering}
use Rattle.std.specs.declared.cmp.Ordering.TheVariants.{Less, Equal, Greater}
use Rattle.std.specs.Ordering.{nat_cmp, is_eq, is_lt, ordering_reverse}
use Rattle.std.proofs.lemmas.Cmp.{nat_list_cmp_total}
use Rattle.std.proofs.lemmas.Map.Text.{is_eq-slice_cmp}
use Rattle.std.proofs.lemmas.Slice.Eq.{bytes_eq-Decides}
use Rattle.toml.specs.Data.{Data, Members}
use Rattle.cts_model.specs.table.TableFlaws.{TableFlaw, Missing, WrongType, OutOfRange, LeastAboveGreatest, MissingKind, UnknownKey, absence_flaw, first_flaw, gate_flaw, is_disordered, is_needed, is_no_table, key_flaw, kind_flaw, least_name, lesser_name, name_flaw, order_flaw, register_flaw, section_flaw, table_flaw, unknown_names, value_flaw, way_flaw}
use Rattle.cts_model.specs.table.TableKeys.{Key, Section, gate_kinds, gate_way, sections, word_of}
use Rattle.cts_model.specs.table.TableValues.{dotted, has_form, is_in_range, number_at, table_at, value_at}
use Rattle.cts_model.specs.table.TableLaws.{IsLeastName, AreRegistersDisordered, IsKindDisordered, IsFirstDisorder, IsFirstKind}

-- ---- the least name

-- the order of names by their bytes
abbrev order : List ℕ → List ℕ → Ordering
order one other = slice_cmp nat_cmp one other

-- one name isn't below another
abbrev IsNotBelow : List ℕ → List ℕ → Type 0
IsNotBelow one other = is_lt (order one other) ≡ false

-- what is less is less
less_fails : (o : Ordering) → o ≡ Less → is_lt o ≡ false → ⊥
less_fails Less is fails = cc
less_fails Equal is fails = cc
less_fails Greater is fails = cc

-- what isn't below a name isn't below a lesser one
not_below_trans : (one other third : List ℕ) → IsNotBelow one other → IsNotBelow other third
    → IsNotBelow one third
not_below_trans one other third first second = at (order one third) (order one other) refl refl
  where
    at : (far near : Ordering) → order one third ≡ far → order one other ≡ near
        → is_lt (order one third) ≡ false
    at Equal near far_is near_is = ap is_lt far_is
    at Greater near far_is near_is = ap is_lt far_is
    at Less Less far_is near_is = absurd (less_fails (order one other) near_is first)
    at Less Equal far_is near_is = absurd (less_fails (order other third)
        (sym (nat_list_cmp_total.congr one other third near_is) ∙ far_is) second)
    at Less Greater far_is near_is =
        let back : order other one ≡ Less =
        nat_list_cmp_total.antisymm other one ∙ ap ordering_reverse near_is in
        absurd (less_fails (order other third)
        (nat_list_cmp_total.trans other one third back far_is) second)

-- names that aren't below one another are one
one_name : (one other : List ℕ) → IsNotBelow one other → IsNotBelow other one → one ≡ other
one_name one other first second = at (order one other) refl
  where
    at : (o : Ordering) → order one other ≡ o → one ≡ other
    at Less is = absurd (less_fails (order one other) is first)
    at Greater is = absurd (less_fails (order other one)
        (nat_list_cmp_total.antisymm other one ∙ ap ordering_reverse is) second)
    at Equal is =
        (bytes_eq-Decides one other).0 (sym (is_eq-slice_cmp one other) ∙ ap is_eq is)

-- no name is below itself
not_below_itself : (name : List ℕ) → IsNotBelow name name
not_below_itself name = at (order name name) refl
  where
    at : (o : Ordering) → order name name ≡ o → is_lt (order name name) ≡ false
    at Equal is = ap is_lt is
    at Greater is = ap is_lt is
    at Less is = ap is_lt (nat_list_cmp_total.antisymm name name ∙ ap ordering_reverse is)

-- the lesser of two names
abbrev lesser_of : List ℕ → List ℕ → List ℕ
lesser_of one other = cond (is_lt (order other one)) other one

-- it is one of them, and neither is below it
record IsLesser (one other lesser : List ℕ) : Type 0 where
  either : (lesser ≡ one) ⊎ (lesser ≡ other)
  first : IsNotBelow one lesser
  second : IsNotBelow other lesser

lesser_is : (one other : List ℕ) → IsLesser one other (lesser_of one other)
lesser_is one other = at (is_lt (order other one)) refl
  where
    above : is_lt (order other one) ≡ true → is_lt (order one other) ≡ false
    above less = back (order other one) less (nat_list_cmp_total.antisymm one other)
      where
        back : (o : Ordering) → is_lt o ≡ true → order one other ≡ ordering_reverse o
            → is_lt (order one other) ≡ false
        back Less is reversed = ap is_lt reversed
        back Equal is reversed = cc
        back Greater is reversed = cc

    at : (less : Bool) → is_lt (order other one) ≡ less → IsLesser one other (cond less other one)
    at true less = record {
      either = inr refl;
      first = above less;
      second = not_below_itself other;
    }
    at false less = record {
      either = inl refl;
      first = not_below_itself one;
      second = less;
    }

-- the least of a name and more names
least_after : (start : List ℕ) (names : List (List ℕ)) → (name : List ℕ)
    × (fold lesser_name (Some start) names ≡ Some name) × IsLeastName (start ∷ names) name
least_after start [] = (
  start,
  refl,
  record {
    among = (0, omega arith, refl);
    least = λ other within. one_among other within;
  },
)
  where
    one_among : (other : List ℕ) → Contains (start ∷ []) other → IsNotBelow other start
    one_among other (zero, within, same) = subst (λ name. IsNotBelow name start) same
        (not_below_itself start)
    one_among other (suc place, within, same) = absurd (omega (arith, within))
least_after start (next ∷ names) =
    let (name, is, least) = least_after (lesser_of start next) names in
    (name, is, record { among = among name least.among; least = below name least.least })
  where
    lesser : IsLesser start next (lesser_of start next)
    lesser = lesser_is start next

    among : (name : List ℕ) → Contains (lesser_of start next ∷ names) name
        → Contains (start ∷ next ∷ names) name
    among name (zero, within, same) = elim lesser.either [
      | inl first ↦ (0, omega arith, sym first ∙ same)
      | inr second ↦ (1, omega arith, sym second ∙ same)
    ]
    among name (suc place, within, same) = (suc (suc place), omega (arith, within), same)

    below : (name : List ℕ)
        → ((other : List ℕ) → Contains (lesser_of start next ∷ names) other → IsNotBelow other name)
        → (other : List ℕ) → Contains (start ∷ next ∷ names) other → IsNotBelow other name
    below name least other (zero, within, same) = subst (λ one. IsNotBelow one name) same
        (not_below_trans start (lesser_of start next) name lesser.first
        (least (lesser_of start next) (0, omega arith, refl)))
    below name least other (suc zero, within, same) = subst (λ one. IsNotBelow one name) same
        (not_below_trans next (lesser_of start next) name lesser.second
        (least (lesser_of start next) (0, omega arith, refl)))
    below name least other (suc (suc place), within, same) =
        least other (suc place, omega (arith, within), same)

-- two least names of a list are one
one_least : (names : List (List ℕ)) (one other : List ℕ) → IsLeastName names one
    → IsLeastName names other → one ≡ other
one_least names one other first second =
    one_name one other (second.least one first.among) (first.least other second.among)

-- some unknown key is given exactly where it is the least
least_is_denoted : (names : List (List ℕ)) (name : List ℕ)
    → (option_map UnknownKey (least_name names) ≡ Some (UnknownKey name)) ↔ IsLeastName names name
least_is_denoted [] name = (λ denoted. cc, λ least. absurd (omega (arith, least.among.1)))
least_is_denoted (start ∷ names) name =
    let (found, is, least) = least_after start names in (
      λ denoted. subst (IsLeastName (start ∷ names))
          (one_key found name (sym (ap (option_map UnknownKey) is) ∙ denoted)) least,
      λ other. ap (option_map UnknownKey) (is ∙ ap Some (one_least (start ∷ names) found name
          least other)),
    )
  where
    one_key : (one other : List ℕ) → Some (UnknownKey one) ≡ Some (UnknownKey other) → one ≡ other
    one_key one other same = cc

-- an unknown key is the least of the names that no key has
pub unknown_key_is_least : (document : Members) (name : List ℕ)
    → (name_flaw document ≡ Some (UnknownKey name)) ↔ IsLeastName (unknown_names document) name
unknown_key_is_least document name = least_is_denoted (unknown_names document) name

-- ---- the first that is out of order

-- what a test of two numbers says
less_is : (one other : ℤ) → (int_lt one other ≡ true) ↔ (one <ℤ other)
less_is one other = (λ holds. grind (arith, ints), λ less. grind (arith, ints))

-- what is given first of a list, where this holds of its items
pub record IsFirstDenoted {X : Type 0} (flaw : X → Option TableFlaw) (items : List X)
    (found : TableFlaw) : Type 0 where
  pub before : List X
  pub item : X
  pub after : List X
  pub split : items ≡ before ++ item ∷ after
  pub none : All (λ earlier. flaw earlier ≡ None) before
  pub denoted : flaw item ≡ Some found

first_is_denoted : {X : Type 0} (flaw : X → Option TableFlaw) (items : List X) (found : TableFlaw)
    → first_flaw flaw items ≡ Some found → IsFirstDenoted flaw items found
first_is_denoted flaw [] found denoted = cc
first_is_denoted {X} flaw (item ∷ items) found denoted =
    at (first_is_denoted flaw items found) (flaw item) refl denoted
  where
    later : flaw item ≡ None → IsFirstDenoted flaw items found
        → IsFirstDenoted flaw (item ∷ items) found
    later none first = record {
      before = item ∷ first.before;
      item = first.item;
      after = first.after;
      split = ap (λ rest. item ∷ rest) first.split;
      none = All-cons (λ earlier. flaw earlier ≡ None) item first.before none first.none;
      denoted = first.denoted;
    }

    at : (first_flaw flaw items ≡ Some found → IsFirstDenoted flaw items found)
        → (o : Option TableFlaw) → flaw item ≡ o → option_or o (first_flaw flaw items) ≡ Some found
        → IsFirstDenoted flaw (item ∷ items) found
    at rest (Some here) is same = record {
      before = [];
      item = item;
      after = items;
      split = refl;
      none = All-nil (λ earlier. flaw earlier ≡ None);
      denoted = is ∙ same;
    }
    at rest None is same = later is (rest same)

-- and what is said of an item after others of which nothing is given
first_denoted : {X : Type 0} (flaw : X → Option TableFlaw) (before : List X) (item : X)
    → (after : List X) (found : TableFlaw) → All (λ earlier. flaw earlier ≡ None) before
    → flaw item ≡ Some found → first_flaw flaw (before ++ item ∷ after) ≡ Some found
first_denoted flaw [] item after found none denoted =
    ap (λ o. option_or o (first_flaw flaw after)) denoted
first_denoted flaw (first ∷ before) item after found none denoted =
    ap (λ o. option_or o (first_flaw flaw (before ++ item ∷ after)))
    (All-head (λ earlier. flaw earlier ≡ None) first before none)
    ∙ first_denoted flaw before item after found
    (All-tail (λ earlier. flaw earlier ≡ None) first before none) denoted

-- a flaw that is given where a test holds
abbrev denoted_where : Bool → List ℕ → Option TableFlaw
denoted_where holds name = cond holds (Some (LeastAboveGreatest name)) None

denoted_holds : (holds : Bool) (own name : List ℕ)
    → denoted_where holds own ≡ Some (LeastAboveGreatest name) → (holds ≡ true) × (name ≡ own)
denoted_holds true own name denoted = (refl, cc)
denoted_holds false own name denoted = cc

absent_fails : (holds : Bool) (own : List ℕ) → denoted_where holds own ≡ None → holds ≡ true → ⊥
absent_fails true own absent holds = cc
absent_fails false own absent holds = cc

fails_absent : (holds : Bool) (own : List ℕ) → (holds ≡ true → ⊥) → denoted_where holds own ≡ None
fails_absent true own fails = absurd (fails refl)
fails_absent false own fails = refl

-- a least number of the registers is above the greatest
abbrev registers_test : Members → Bool
registers_test document =
    is_disordered (codes "register" ∷ []) (codes "least") (codes "greatest") document

-- or of a gate kind
abbrev kind_test : Members → Kind → Bool
kind_test document kind =
    is_disordered (gate_way kind) (codes "least") (codes "greatest") document
    || is_disordered (gate_way kind) (codes "least_per_input") (codes "greatest_per_input") document

either_holds : (one other : Bool) → (one || other) ≡ true → (one ≡ true) ⊎ (other ≡ true)
either_holds true other holds = inl refl
either_holds false other holds = inr holds

holds_either : (one other : Bool) → (one ≡ true) ⊎ (other ≡ true) → (one || other) ≡ true
holds_either true other (inl one_holds) = refl
holds_either true other (inr other_holds) = refl
holds_either false other (inl one_holds) = cc
holds_either false other (inr other_holds) = other_holds

kind_disordered : (document : Members) (kind : Kind) → kind_test document kind ≡ true
    → IsKindDisordered document kind
kind_disordered document kind holds = elim (either_holds
    (is_disordered (gate_way kind) (codes "least") (codes "greatest") document)
    (is_disordered (gate_way kind) (codes "least_per_input") (codes "greatest_per_input") document)
    holds) [
      | inl one ↦ inl ((less_is (number_at (gate_way kind) (codes "greatest") document)
          (number_at (gate_way kind) (codes "least") document)).0 one)
      | inr other ↦ inr ((less_is (number_at (gate_way kind) (codes "greatest_per_input") document)
          (number_at (gate_way kind) (codes "least_per_input") document)).0 other)
    ]

disordered_kind : (document : Members) (kind : Kind) → IsKindDisordered document kind
    → kind_test document kind ≡ true
disordered_kind document kind disordered = holds_either
    (is_disordered (gate_way kind) (codes "least") (codes "greatest") document)
    (is_disordered (gate_way kind) (codes "least_per_input") (codes "greatest_per_input") document)
    (elim disordered [
      | inl one ↦ inl ((less_is (number_at (gate_way kind) (codes "greatest") document)
          (number_at (gate_way kind) (codes "least") document)).1 one)
      | inr other ↦ inr ((less_is (number_at (gate_way kind) (codes "greatest_per_input") document)
          (number_at (gate_way kind) (codes "least_per_input") document)).1 other)
    ])

registers_are : (document : Members) → (registers_test document ≡ true)
    ↔ AreRegistersDisordered document
registers_are document = less_is (number_at (codes "register" ∷ []) (codes "greatest") document)
    (number_at (codes "register" ∷ []) (codes "least") document)

-- the first gate kind that is given
first_kind : (document : Members) (name : List ℕ)
    → IsFirstDenoted (gate_flaw document) gate_kinds (LeastAboveGreatest name)
    → IsFirstKind document name
first_kind document name first =
    let (holds, named) = denoted_holds (kind_test document first.item) (word_of first.item) name
    first.denoted in
    record {
      before = first.before;
      kind = first.item;
      after = first.after;
      split = first.split;
      ordered = All-weaker (λ kind. gate_flaw document kind ≡ None)
          (λ kind. IsKindDisordered document kind → ⊥)
          (λ kind none disordered. absent_fails (kind_test document kind) (word_of kind) none
          (disordered_kind document kind disordered)) first.before first.none;
      disordered = kind_disordered document first.item holds;
      named = named;
    }

-- and it is given
kind_first : (document : Members) (name : List ℕ) → IsFirstKind document name
    → first_flaw (gate_flaw document) gate_kinds ≡ Some (LeastAboveGreatest name)
kind_first document name first =
    ap (first_flaw (gate_flaw document)) first.split
    ∙ first_denoted (gate_flaw document) first.before first.kind first.after
    (LeastAboveGreatest name)
    (All-weaker (λ kind. IsKindDisordered document kind → ⊥)
    (λ kind. gate_flaw document kind ≡ None)
    (λ kind ordered. fails_absent (kind_test document kind) (word_of kind)
    (λ holds. ordered (kind_disordered document kind holds))) first.before first.ordered)
    (ap (λ holds. denoted_where holds (word_of first.kind))
    (disordered_kind document first.kind first.disordered)
    ∙ ap (λ own. Some (LeastAboveGreatest own)) (sym first.named))

pub first_disorder_is_denoted : (document : Members) (name : List ℕ)
    → (order_flaw document ≡ Some (LeastAboveGreatest name)) ↔ IsFirstDisorder document name
first_disorder_is_denoted document name =
    (forward (registers_test document) (registers_are document), back)
  where
    differ : false ≡ true → ⊥
    differ same = cc

    forward : (holds : Bool) → (holds ≡ true) ↔ AreRegistersDisordered document
        → option_or (denoted_where holds (codes "register")) (first_flaw (gate_flaw document)
        gate_kinds) ≡ Some (LeastAboveGreatest name) → IsFirstDisorder document name
    forward true are denoted = inl (are.0 refl, cc)
    forward false are denoted = inr (
      λ disordered. differ (are.1 disordered),
      first_kind document name (first_is_denoted (gate_flaw document) gate_kinds
          (LeastAboveGreatest name) denoted),
    )

    back : IsFirstDisorder document name → order_flaw document ≡ Some (LeastAboveGreatest name)
    back (inl (disordered, named)) =
        ap (λ holds. option_or (denoted_where holds (codes "register")) (first_flaw
        (gate_flaw document) gate_kinds)) ((registers_are document).1 disordered)
        ∙ ap (λ own. Some (LeastAboveGreatest own)) (sym named)
    back (inr (ordered, first)) =
        ap (λ flaw. option_or flaw (first_flaw (gate_flaw document) gate_kinds))
        (fails_absent (registers_test document) (codes "register")
        (λ holds. ordered ((registers_are document).0 holds)))
        ∙ kind_first document name first

-- ---- in the whole table

-- a flaw of a key, and not of names, kinds or an order
abbrev IsOfKey : TableFlaw → Type 0
IsOfKey (Missing name) = Unit {0}
IsOfKey (WrongType name) = Unit {0}
IsOfKey (OutOfRange name) = Unit {0}
IsOfKey flaw = ⊥

-- a flaw that is given is one of two
denoted_either : (one other : Option TableFlaw) (found : TableFlaw)
    → option_or one other ≡ Some found → (one ≡ Some found) ⊎ (other ≡ Some found)
denoted_either None other found denoted = inr denoted
denoted_either (Some flaw) other found denoted = inl denoted

-- whatever a test chooses
chosen_of_key : (test : Bool) (one other : Option TableFlaw) → IfSome one IsOfKey
    → IfSome other IsOfKey → IfSome (cond test one other) IsOfKey
chosen_of_key true one other first second = first
chosen_of_key false one other first second = second

way_of_key : (passed way : List (List ℕ)) (document : Members)
    → IfSome (way_flaw passed way document) IsOfKey
way_of_key passed [] document = tt
way_of_key passed (name ∷ way) document =
    chosen_of_key (is_no_table (value_at passed name document))
    (Some (WrongType (dotted passed name))) (way_flaw (passed ++ name ∷ []) way document) tt
    (way_of_key (passed ++ name ∷ []) way document)

key_of_key : (way : List (List ℕ)) (document : Members) (key : Key)
    → IfSome (key_flaw way document key) IsOfKey
key_of_key way document key = at (value_at way key.name document)
  where
    at : (value : Option Data) → IfSome (option_map_or (value_flaw key (dotted way key.name)) value
        (absence_flaw key (dotted way key.name) (is_some (table_at way document)))) IsOfKey
    at None = chosen_of_key (is_needed key.need (is_some (table_at way document)))
        (Some (Missing (dotted way key.name))) None tt tt
    at (Some value) = chosen_of_key (not (has_form key.form value))
        (Some (WrongType (dotted way key.name)))
        (cond (not (is_in_range key.form value)) (Some (OutOfRange (dotted way key.name))) None) tt
        (chosen_of_key (not (is_in_range key.form value))
        (Some (OutOfRange (dotted way key.name))) None tt tt)

-- either of two flaws of keys
either_of_key : (one other : Option TableFlaw) → IfSome one IsOfKey → IfSome other IsOfKey
    → IfSome (option_or one other) IsOfKey
either_of_key None other first second = second
either_of_key (Some flaw) other first second = first

-- the first of flaws that each are of keys
first_of_key : {X : Type 0} (flaw : X → Option TableFlaw) (items : List X)
    → ((item : X) → IfSome (flaw item) IsOfKey) → IfSome (first_flaw flaw items) IsOfKey
first_of_key flaw [] each = tt
first_of_key {X} flaw (item ∷ items) each = either_of_key (flaw item) (first_flaw flaw items)
    (each item) (first_of_key flaw items each)

section_of_key : (document : Members) (section : Section)
    → IfSome (section_flaw document section) IsOfKey
section_of_key document section = either_of_key (way_flaw [] section.way document)
    (first_flaw (key_flaw section.way document) section.keys)
    (way_of_key [] section.way document)
    (first_of_key (key_flaw section.way document) section.keys (key_of_key section.way document))

-- so no key's flaw is of another sort
keys_absent : (document : Members) (found : TableFlaw) → (IsOfKey found → ⊥)
    → first_flaw (section_flaw document) sections ≡ Some found → ⊥
keys_absent document found other denoted = other (subst (λ o. IfSome o IsOfKey) denoted
    (first_of_key (section_flaw document) sections (section_of_key document)))

-- nor is that of a gate kind without its table
kind_absent : (used : List Bool) (document : Members) (found : TableFlaw)
    → ((kind : Kind) → found ≡ MissingKind kind → ⊥)
    → first_flaw (kind_flaw used document) gate_kinds ≡ Some found → ⊥
kind_absent used document found other denoted =
    let first = first_is_denoted (kind_flaw used document) gate_kinds found denoted in
    at (slice_index_or used (place_of first.item) false
    && is_none (table_at (gate_way first.item) document)) first.item first.denoted
  where
    at : (test : Bool) (kind : Kind) → cond test (Some (MissingKind kind)) None ≡ Some found → ⊥
    at true kind same = other kind (one_flaw (MissingKind kind) same)
      where
        one_flaw : (flaw : TableFlaw) → Some flaw ≡ Some found → found ≡ flaw
        one_flaw flaw same = cc
    at false kind same = cc

-- what is given after flaws that aren't
other_denoted : (one other : Option TableFlaw) (found : TableFlaw) → (one ≡ Some found → ⊥)
    → option_or one other ≡ Some found → other ≡ Some found
other_denoted None other found absent denoted = denoted
other_denoted (Some flaw) other found absent denoted = absurd (absent denoted)

-- an order names no unknown key, and an unknown key no order
order_absent : (document : Members) (name : List ℕ)
    → order_flaw document ≡ Some (UnknownKey name) → ⊥
order_absent document name denoted = elim (denoted_either (register_flaw document)
    (first_flaw (gate_flaw document) gate_kinds) (UnknownKey name) denoted) [
      | inl registers ↦ differs (registers_test document) (codes "register") registers
      | inr kinds ↦
          let first = first_is_denoted (gate_flaw document) gate_kinds (UnknownKey name) kinds in
          differs (kind_test document first.item) (word_of first.item) first.denoted
    ]
  where
    differs : (holds : Bool) (own : List ℕ) → denoted_where holds own ≡ Some (UnknownKey name) → ⊥
    differs true own same = cc
    differs false own same = cc

names_absent : (document : Members) (name : List ℕ)
    → name_flaw document ≡ Some (LeastAboveGreatest name) → ⊥
names_absent document name denoted = differs (least_name (unknown_names document)) denoted
  where
    differs : (least : Option (List ℕ))
        → option_map UnknownKey least ≡ Some (LeastAboveGreatest name) → ⊥
    differs None same = cc
    differs (Some own) same = cc

-- what is given after the keys of a table
abbrev after_keys : List Bool → Members → Option TableFlaw
after_keys used document = option_or (order_flaw document)
    (option_or (first_flaw (kind_flaw used document) gate_kinds) (name_flaw document))

denoted_after_keys : (used : List Bool) (document : Members) (found : TableFlaw)
    → (IsOfKey found → ⊥) → table_flaw used document ≡ Some found
    → after_keys used document ≡ Some found
unfolding table_flaw
denoted_after_keys used document found other denoted =
    other_denoted (first_flaw (section_flaw document) sections) (after_keys used document) found
    (keys_absent document found other) denoted

-- the unknown key that a table's flaw denotes is the least
pub unknown_of_table : (used : List Bool) (document : Members) (name : List ℕ)
    → table_flaw used document ≡ Some (UnknownKey name) → IsLeastName (unknown_names document) name
unknown_of_table used document name denoted =
    let suffix = denoted_after_keys used document (UnknownKey name) (λ of_key. of_key) denoted in
    let names = other_denoted (order_flaw document)
    (option_or (first_flaw (kind_flaw used document) gate_kinds) (name_flaw document))
    (UnknownKey name) (order_absent document name) suffix in
    (unknown_key_is_least document name).0
    (other_denoted (first_flaw (kind_flaw used document) gate_kinds) (name_flaw document)
    (UnknownKey name) (kind_absent used document (UnknownKey name) (λ kind same. cc)) names)

-- and the order that it denotes is the first that is out
pub disorder_of_table : (used : List Bool) (document : Members) (name : List ℕ)
    → table_flaw used document ≡ Some (LeastAboveGreatest name) → IsFirstDisorder document name
disorder_of_table used document name denoted =
    let suffix = denoted_after_keys used document (LeastAboveGreatest name) (λ of_key. of_key)
    denoted in
    elim (denoted_either (order_flaw document)
    (option_or (first_flaw (kind_flaw used document) gate_kinds) (name_flaw document))
    (LeastAboveGreatest name) suffix) [
      | inl order ↦ (first_disorder_is_denoted document name).0 order
      | inr rest ↦ absurd (names_absent document name
          (other_denoted (first_flaw (kind_flaw used document) gate_kinds) (name_flaw document)
          (LeastAboveGreatest name)
          (kind_absent used document (LeastAboveGreatest name) (λ kind same. cc)) rest))
    ]
