-- What the first flaw of a delay table says of its names and of its order. Each law is the clause
-- of a function of the module laws.
use Rattle.std.specs.Prelude.{◌≡◌, ◌⊎◌, ◌↔◌, ℕ, ◌<ℤ◌, false, List, [], ◌∷◌, ◌++◌, All, Contains, Some, codes}
use Rattle.std.specs.Ordering.{nat_cmp, is_lt}
use Rattle.std.specs.Cmp.Lexicographic.{slice_cmp}
use Rattle.toml.specs.Data.{Members}
use Rattle.cts_model.specs.Types.{Kind}
use Rattle.cts_model.specs.table.TableFlaws.{LeastAboveGreatest, UnknownKey, name_flaw, order_flaw, unknown_names}
use Rattle.cts_model.specs.table.TableKeys.{gate_kinds, gate_way, word_of}
use Rattle.cts_model.specs.table.TableValues.{number_at}

-- the name is one of these, and in the order of their bytes none of them is less
pub record IsLeastName (names : List (List ℕ)) (name : List ℕ) : Type 0 where
  pub among : Contains names name
  pub least : (other : List ℕ) → Contains names other
      → is_lt (slice_cmp nat_cmp other name) ≡ false

-- an unknown key is the least of the names that no key has
abbrev pub UnknownKeyIsLeast : Type 0
UnknownKeyIsLeast = (document : Members) (name : List ℕ)
    → name_flaw document ≡ Some (UnknownKey name) ↔ IsLeastName (unknown_names document) name

-- a number of a table is below the one that it may not be below
abbrev pub IsBelowAt : Members → List (List ℕ) → (greatest least : List ℕ) → Type 0
IsBelowAt document way greatest least =
    number_at way greatest document <ℤ number_at way least document

-- the least delay of registers is above the greatest
abbrev pub AreRegistersDisordered : Members → Type 0
AreRegistersDisordered document =
    IsBelowAt document (codes "register" ∷ []) (codes "greatest") (codes "least")

-- a least delay of a gate kind is above the greatest, by itself or for each input
abbrev pub IsKindDisordered : Members → Kind → Type 0
IsKindDisordered document kind =
    IsBelowAt document (gate_way kind) (codes "greatest") (codes "least")
    ⊎ IsBelowAt document (gate_way kind) (codes "greatest_per_input") (codes "least_per_input")

-- the first gate kind of which that holds has this name
pub record IsFirstKind (document : Members) (name : List ℕ) : Type 0 where
  pub before : List Kind
  pub kind : Kind
  pub after : List Kind
  pub split : gate_kinds ≡ before ++ kind ∷ after
  pub ordered : All (λ earlier. ¬ IsKindDisordered document earlier) before
  pub disordered : IsKindDisordered document kind
  pub named : name ≡ word_of kind

-- the registers are out of order, or else this gate kind is the first that is
abbrev pub IsFirstDisorder : Members → List ℕ → Type 0
IsFirstDisorder document name = (AreRegistersDisordered document × (name ≡ codes "register"))
    ⊎ (¬ AreRegistersDisordered document × IsFirstKind document name)

-- what is said of an order is the first that is out of order
abbrev pub FirstDisorderIsDenoted : Type 0
FirstDisorderIsDenoted = (document : Members) (name : List ℕ)
    → order_flaw document ≡ Some (LeastAboveGreatest name) ↔ IsFirstDisorder document name
