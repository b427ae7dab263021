-- The first flaw of several that are judged in order.
use Rattle.delay_tables.proofs.Vocabulary.{◌≡◌, ℕ, ◌+◌, ◌<◌, ◌≤◌, Bool, true, false, cond, List, [], ◌∷◌, ◌++◌, length, take, drop, get_or, map, Bor, Option, Some, None, Result, refl, sym, ap, ◌∙◌, subst, drop_more, drop_all, take_more, map-append, option_or, Members, dotted, value_at, TableFlaw, WrongType, first_flaw, section_flaw, way_flaw, is_no_table, sections, top_sections, gate_section, gate_kinds, TechFault, texts, IsFaultOf, Judges}
use Rattle.delay_tables.specs.declared.fault.TechFault.TheVariants as fault

-- a fault of the first flaw is one of the whole
pub fault_first : (flaw next : Option TableFlaw) (found : TechFault) → IsFaultOf flaw found
    → IsFaultOf (option_or flaw next) found
fault_first flaw next fault.NotToml cause = cause
fault_first flaw next (fault.Missing name) cause = rw cause
fault_first flaw next (fault.WrongType name) cause = rw cause
fault_first flaw next (fault.OutOfRange name) cause = rw cause
fault_first flaw next (fault.LeastAboveGreatest name) cause = rw cause
fault_first flaw next (fault.MissingKind kind) cause = rw cause
fault_first flaw next (fault.UnknownKey name) cause = rw cause
fault_first flaw next fault.NoMemory cause = tt

-- where there is no first flaw, a fault of those that follow is one of the whole
pub fault_next : (flaw next : Option TableFlaw) (found : TechFault) → flaw ≡ None
    → IsFaultOf next found → IsFaultOf (option_or flaw next) found
fault_next flaw next found none cause =
    subst (λ first. IsFaultOf (option_or first next) found) (sym none) cause

-- the same, where the whole is given
pub fault_here : (whole flaw next : Option TableFlaw) (found : TechFault)
    → whole ≡ option_or flaw next → IsFaultOf flaw found → IsFaultOf whole found
fault_here whole flaw next found is cause =
    subst (λ all. IsFaultOf all found) (sym is) (fault_first flaw next found cause)

-- where there is no first flaw, the whole is what follows
pub flaw_next : (whole flaw next : Option TableFlaw) → whole ≡ option_or flaw next → flaw ≡ None
    → next ≡ whole
flaw_next whole flaw next is none = ap (λ first. option_or first next) (sym none) ∙ sym is

-- of what is left of a list, the item at a place is judged first
pub flaws_more : {X Y : Type 0} (view : X → Y) (flaw : Y → Option TableFlaw) (xs : List X)
    (place : ℕ) (other : X) → place < length xs
    → first_flaw flaw (map view (drop place xs)) ≡ option_or (flaw (view (get_or xs place other)))
    (first_flaw flaw (map view (drop (place + 1) xs)))
flaws_more view flaw xs place other within =
    ap (λ rest. first_flaw flaw (map view rest)) (drop_more xs place other within)

chosen : (test : Bool) (flaw : TableFlaw) (next : Option TableFlaw)
    → cond test (Some flaw) next ≡ option_or (cond test (Some flaw) None) next
chosen true flaw next = refl
chosen false flaw next = refl

-- of what is left of a way, the name at a place is judged first
pub way_more : (document : Members) (way : List (Bor (List ℕ))) (place : ℕ) (other : Bor (List ℕ))
    → place < length way → way_flaw (texts (take place way)) (texts (drop place way)) document
    ≡ option_or (way_flaw (texts (take place way)) ((get_or way place other).now ∷ []) document)
    (way_flaw (texts (take (place + 1) way)) (texts (drop (place + 1) way)) document)
way_more document way place other within =
    let passed : texts (take (place + 1) way)
    ≡ texts (take place way) ++ (get_or way place other).now ∷ []
    = ap texts (take_more way place other within)
    ∙ map-append (λ (name : Bor (List ℕ)). name.now) (take place way)
    (get_or way place other ∷ []) in
    ap (λ rest. way_flaw (texts (take place way)) (texts rest) document)
    (drop_more way place other within)
    ∙ (chosen
    (is_no_table (value_at (texts (take place way)) (get_or way place other).now document))
    (WrongType (dotted (texts (take place way)) (get_or way place other).now)) _
    ∙ ap (λ before.
    option_or (way_flaw (texts (take place way)) ((get_or way place other).now ∷ []) document)
    (way_flaw before (texts (drop (place + 1) way)) document)) (sym passed))

pub way_all : (document : Members) (passed : List (List ℕ)) (way : List (Bor (List ℕ))) (place : ℕ)
    → length way ≤ place → way_flaw passed (texts (drop place way)) document ≡ None
way_all document passed way place past =
    ap (λ rest. way_flaw passed (texts rest) document) (drop_all place way past)

-- two lists judged one after the other
flaws-append : {X : Type 0} (flaw : X → Option TableFlaw) (xs ys : List X)
    → first_flaw flaw (xs ++ ys) ≡ option_or (first_flaw flaw xs) (first_flaw flaw ys)
flaws-append flaw [] ys = refl
flaws-append flaw (x ∷ xs) ys = ap (option_or (flaw x)) (flaws-append flaw xs ys)
    ∙ or_assoc (flaw x) (first_flaw flaw xs) (first_flaw flaw ys)
  where
    or_assoc : (first second third : Option TableFlaw)
        → option_or first (option_or second third) ≡ option_or (option_or first second) third
    or_assoc None second third = refl
    or_assoc (Some found) second third = refl

-- the tables at the top are judged, and then those of gate kinds
pub flaws-sections : (document : Members) → first_flaw (section_flaw document) sections
    ≡ option_or (first_flaw (section_flaw document) top_sections)
    (first_flaw (section_flaw document) (map gate_section gate_kinds))
unfolding sections
flaws-sections document =
    flaws-append (section_flaw document) top_sections (map gate_section gate_kinds)

-- where there is no first flaw, who judges what follows judges the whole
pub judges_next : {X : Type 0} (result : Result X TechFault) (whole flaw next : Option TableFlaw)
    → whole ≡ option_or flaw next → flaw ≡ None → Judges result next → Judges result whole
judges_next result whole flaw next is none judges =
    subst (Judges result) (flaw_next whole flaw next is none) judges

-- the same of a list as it stands
pub flaws_from : {X : Type 0} (flaw : X → Option TableFlaw) (xs : List X) (place : ℕ) (other : X)
    → place < length xs → first_flaw flaw (drop place xs)
    ≡ option_or (flaw (get_or xs place other)) (first_flaw flaw (drop (place + 1) xs))
flaws_from flaw xs place other within = ap (first_flaw flaw) (drop_more xs place other within)
