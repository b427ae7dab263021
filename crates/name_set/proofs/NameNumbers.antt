-- Names by their numbers: as the keys of a set, and as those of a circuit's registers.
use Rattle.std.proofs.Common.{◌≡◌, ◌<◌, ◌+◌, ℕ, Bool, true, false, not, cond, if◌then◌else◌, List, [], ◌∷◌, ◌++◌, map, get_or, length, position, Some, None, refl, sym, ap, ◌∙◌, arith}
use Rattle.std.specs.List.{list_any, position_or_len, range_with_len}
use Rattle.std.specs.Str.{bytes_eq}
use Rattle.std.proofs.lemmas.Bool.{false_from_ne_true}
use Rattle.std.proofs.lemmas.Bool.Decides.{nat_tests}
use Rattle.std.proofs.lemmas.List.{length-map, map_push}
use Rattle.std.proofs.lemmas.List.Folds.{list_any_none}
use Rattle.std.proofs.lemmas.List.FromFn.{get_or-map-range_with_len, length-map-range_with_len, map-range_with_len_more}
use Rattle.std.proofs.lemmas.List.Quantifiers.{position-Some}
use Rattle.std.proofs.lemmas.List.Sums.{fails_before_first, prefix_len-le-length}
use Rattle.std.proofs.lemmas.Slice.Eq.{bytes_eq-Decides}
use Rattle.cts_base.proofs.ListTests.{list_any-map}
use Rattle.indexmap.specs.IndexSet.{insert_key}
use Rattle.cts_model.specs.declared.circuit.Circuit.{Circuit}
use Rattle.cts_model.specs.Vocabulary.{register_name}
use Rattle.name_set.specs.Names.{with_name}
use Rattle.name_set.proofs.OneName.{few_registers, one_register}

-- ---- keys

module _ {X Y : Type 0} (f : X → Y) (test : Y → Bool) where
  -- so many items before the first that passes
  position_or_len-map : (xs : List X)
      → position_or_len test (map f xs) ≡ position_or_len (λ x. test (f x)) xs
  position_or_len-map [] = refl
  position_or_len-map (x ∷ xs) =
      ap (λ n. cond (not (test (f x))) (1 + n) 0) (position_or_len-map xs)

  -- the first place that passes is where it is in the list before
  pub position-map : (xs : List X) → position test (map f xs) ≡ position (λ x. test (f x)) xs
  position-map xs = rw (position_or_len-map xs, length-map xs f) refl

-- a key that is put in puts its name in
pub insert_key-map : {X : Type 0} (bytes : X → List ℕ) (keys : List X) (key : X)
    → map bytes (insert_key (λ first second. bytes_eq (bytes first) (bytes second)) keys key)
    ≡ with_name (map bytes keys) (bytes key)
insert_key-map bytes keys key = at (list_any (λ other. bytes_eq (bytes key) (bytes other)) keys)
    (list_any (bytes_eq (bytes key)) (map bytes keys))
    (sym (list_any-map bytes (bytes_eq (bytes key)) keys))
  where
    at : (here among : Bool) → here ≡ among
        → map bytes (if here then keys else keys ++ key ∷ [])
        ≡ (if among then map bytes keys else map bytes keys ++ bytes key ∷ [])
    at true true same = refl
    at false false same = map_push bytes keys key
    at true false same = cc
    at false true same = cc

-- ---- names below a number

module _ (name_at : ℕ → List ℕ) (count : ℕ) (name : List ℕ) where
  -- a name that none of them is
  pub absent_below : ((number : ℕ) → number < count → name_at number ≡ name → ⊥)
      → list_any (bytes_eq name) (map name_at (range_with_len 0 count)) ≡ false
  absent_below none =
      list_any_none (bytes_eq name) (map name_at (range_with_len 0 count)) (λ k d within.
      let below : k < count =
      omega (arith, length-map-range_with_len name_at 0 count) in
      false_from_ne_true (bytes_eq name (get_or (map name_at (range_with_len 0 count)) k d))
      (λ same. none k below
      (sym (get_or-map-range_with_len name_at 0 count k k d below (omega arith))
      ∙ sym ((bytes_eq-Decides name (get_or (map name_at (range_with_len 0 count)) k d)).0
      same))))

  -- the first that it is
  pub found_below : (number : ℕ)
      → position (bytes_eq name) (map name_at (range_with_len 0 count)) ≡ Some number
      → (number < count) × (name_at number ≡ name)
  found_below number found =
      let list : List (List ℕ) = map name_at (range_with_len 0 count) in
      let here = position-Some (bytes_eq name) list number [] found in
      let below : number < count =
      omega (arith, here.0, length-map-range_with_len name_at 0 count) in (
        below,
        sym (get_or-map-range_with_len name_at 0 count number number [] below (omega arith))
            ∙ sym ((bytes_eq-Decides name (get_or list number [])).0 here.1),
      )

  -- where there is none, none is
  pub missed_below : position (bytes_eq name) (map name_at (range_with_len 0 count)) ≡ None
      → (number : ℕ) → number < count → name_at number ≡ name → ⊥
  missed_below none number within same =
      let list : List (List ℕ) = map name_at (range_with_len 0 count) in
      let all : position_or_len (bytes_eq name) list ≡ length list =
      grind (
        arith,
        nat_tests,
        none,
        prefix_len-le-length (λ x. not (bytes_eq name x)) list,
      ) in
      let fails = fails_before_first (bytes_eq name) list number []
      (omega (arith, all, length-map-range_with_len name_at 0 count)) in
      let holds = (bytes_eq-Decides name (get_or list number [])).1
      (sym same ∙ sym (get_or-map-range_with_len name_at 0 count number number [] within
      (omega arith))) in
      let bad : true ≡ false = sym holds ∙ fails in cc

-- one more name below the number, which none of those before is
pub with_name-next : (name_at : ℕ → List ℕ) (count : ℕ) {names new : List (List ℕ)}
    {name : List ℕ} → names ≡ map name_at (range_with_len 0 count) → name ≡ name_at count
    → ((number : ℕ) → number < count → name_at number ≡ name_at count → ⊥)
    → new ≡ with_name names name → new ≡ map name_at (range_with_len 0 (count + 1))
with_name-next name_at count are same none inserted =
    inserted ∙ (λ i. with_name (are i) (same i))
    ∙ rw (absent_below name_at count (name_at count) none)
    (sym (map-range_with_len_more name_at 0 count count (omega arith)))

-- ---- a circuit's registers

-- the name of a register is none of those before
pub register_new : (circuit : Circuit) (register : ℕ) → register < length circuit.registers
    → (earlier : ℕ) → earlier < register
    → register_name circuit earlier ≡ register_name circuit register → ⊥
register_new circuit register within earlier before same =
    omega (arith, one_register circuit earlier register (omega arith) within same)

-- so many names have room
pub registers_few : (circuit : Circuit) (names : List (List ℕ)) (register : ℕ)
    → register < length circuit.registers
    → names ≡ map (register_name circuit) (range_with_len 0 register) → length names < 65537
registers_few circuit names register within are =
    let long : length names ≡ register =
    ap length are ∙ length-map-range_with_len (register_name circuit) 0 register in
    omega (arith, long, within, few_registers circuit)
