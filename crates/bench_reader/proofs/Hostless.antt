-- No line defines the host.
use Rattle.bench_reader.proofs.Vocabulary.{◌≡◌, ℕ, Bool, true, false, if◌then◌else◌, codes, List, Option, Some, None, IfSome, All, IsTrue, get_or, map, refl, sym, ap, ◌∙◌, true≢false, slice_get, option_map, str_eq_ignore_ascii_case, slice_get_within, get_or_from_slice_get, All-map, Kind, Signal, is_host, kind_of, has_host, Statement, Blank, Input, Output, Assign, Definition, definition_of, statements_in, definitions_in, signal_of}
use Rattle.std.proofs.lemmas.List.Folds.{list_any_none}
use Rattle.cts_model.specs.declared.kind.Kind.TheVariants.{And, Nand, Or, Nor, Not, Xor, Xnor, Buff, Dff}
use Rattle.bench_reader.proofs.Lists.{All-filter_map}

-- a definition that isn't the host's
abbrev pub IsHostless : Definition → Type 0
IsHostless definition = is_host definition.kind ≡ false

-- no word names the host
kind_hostless : (word : List ℕ) → IfSome (kind_of word) (λ kind. is_host kind ≡ false)
kind_hostless word =
    at (str_eq_ignore_ascii_case word (codes "AND")) (str_eq_ignore_ascii_case word (codes "NAND"))
    (str_eq_ignore_ascii_case word (codes "OR")) (str_eq_ignore_ascii_case word (codes "NOR"))
    (str_eq_ignore_ascii_case word (codes "NOT")) (str_eq_ignore_ascii_case word (codes "XOR"))
    (str_eq_ignore_ascii_case word (codes "XNOR")) (str_eq_ignore_ascii_case word (codes "BUFF"))
    (str_eq_ignore_ascii_case word (codes "BUF")) (str_eq_ignore_ascii_case word (codes "DFF"))
  where
    at : (a b c d e f g h i j : Bool)
        → IfSome (if a then Some And else if b then Some Nand else if c then Some Or else if d
        then Some Nor else if e then Some Not else if f then Some Xor else if g then Some Xnor
        else if h then Some Buff else if i then Some Buff else if j then Some Dff else None)
        (λ kind. is_host kind ≡ false)
    at true b c d e f g h i j = refl
    at false true c d e f g h i j = refl
    at false false true d e f g h i j = refl
    at false false false true e f g h i j = refl
    at false false false false true f g h i j = refl
    at false false false false false true g h i j = refl
    at false false false false false false true h i j = refl
    at false false false false false false false true i j = refl
    at false false false false false false false false true j = refl
    at false false false false false false false false false true = refl
    at false false false false false false false false false false = tt

-- no statement defines it
definition_hostless : (statement : Statement) → IfSome (definition_of statement) IsHostless
definition_hostless Blank = tt
definition_hostless (Input name) = refl
definition_hostless (Output name) = tt
definition_hostless (Assign name word inputs) = at (kind_of word) (kind_hostless word)
  where
    at : (o : Option Kind) → IfSome o (λ kind. is_host kind ≡ false)
        → IfSome (option_map (λ kind. record { name = name; kind = kind; inputs = inputs }) o)
        IsHostless
    at None hostless = tt
    at (Some kind) hostless = hostless

-- nor do any lines
pub hostless_lines : (lines : List (List ℕ)) → All IsHostless (definitions_in lines)
hostless_lines lines = All-filter_map definition_of (λ _. Unit {0}) IsHostless
    (λ statement _. definition_hostless statement) (statements_in lines) (λ k d within. tt)

-- a signal that is the host isn't among others
pub no_host : (signals : List Signal) (number : ℕ) (signal : Signal)
    → All (λ s. is_host s.kind ≡ false) signals → slice_get signals number ≡ Some signal
    → IsTrue (is_host signal.kind) → ⊥
no_host signals number signal hostless here host =
    let found : get_or signals number signal ≡ signal =
    get_or_from_slice_get signals number signal signal here in
    true≢false (sym host ∙ ap (λ s. is_host s.kind) (sym found)
    ∙ hostless number signal (slice_get_within signals number signal here))

-- so the signals that lines define have none
pub has_host-lines : (names lines : List (List ℕ))
    → has_host (map (signal_of names) (definitions_in lines)) ≡ false
has_host-lines names lines =
    list_any_none (λ s. is_host s.kind) (map (signal_of names) (definitions_in lines))
    (All-map (λ s. is_host s.kind ≡ false) (signal_of names) (definitions_in lines)
    (hostless_lines lines))
