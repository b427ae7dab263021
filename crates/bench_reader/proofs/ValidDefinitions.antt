-- What the definitions of lines without a fault keep.
use Rattle.bench_reader.proofs.Vocabulary.{◌≡◌, ◌≢◌, bytes_eq, list_any, ℕ, ◌≤◌, ◌<◌, Bool, true, false, nat_le, nat_lt, if◌then◌else◌, ◌&&◌, List, [], ◌∷◌, ◌++◌, length, Option, Some, None, All, AllPairs, Contains, IsTrue, refl, ◌∙◌, subst, arith, append_assoc, append-nil, option_map_or, option_and_then, nat_tests, length_push, length-map, get_or-map, All-nil, All-push, Contains-get_or, all_pairs_push, first_fault_after, neither, is_name, is_short, is_valid, Definition, definition_of, definitions_in, defined_names, register_count, gate_input_count, has_valid_inputs, is_defined_before, definition_excess, bench_line_fault, Signals, Registers, Inputs}
use Rattle.bench_reader.proofs.LineStatements.{definitions_push_some, definitions_push_none}
use Rattle.bench_reader.proofs.FlawlessLines.{IsSoundLine, sound_line}
use Rattle.bench_reader.proofs.StatementNames.{defined_name}
use Rattle.std.specs.Cmp.Lexicographic.{nat_list_eq_equiv}
use Rattle.std.proofs.lemmas.Map.Views.{list_any-from_Contains}

-- a name that no name equals isn't among them
absent_from_any : (names : List (List ℕ)) (name : List ℕ)
    → list_any (bytes_eq name) names ≡ false → Contains names name → ⊥
absent_from_any names name none there =
    let found = list_any-from_Contains nat_list_eq_equiv name names there in grind (arith, found)

-- a name that is short enough
abbrev pub HasName : List ℕ → Type 0
HasName name = IsTrue (is_name name && is_short name)

-- definitions that a netlist may have
pub record AreValid (definitions : List Definition) : Type 0 where
  pub names : All (λ definition. HasName definition.name) definitions
  pub distinct : AllPairs (λ first second. first.name ≢ second.name) definitions
  pub valid_inputs :
      All (λ definition. IsTrue (is_valid definition.kind (length definition.inputs))) definitions
  pub few_signals : length definitions ≤ 65536
  pub few_registers : register_count definitions ≤ 4096
  pub few_inputs : gate_input_count definitions ≤ 262144

-- one more definition keeps the limits
record IsWithinLimits (definitions : List Definition) (definition : Definition) : Type 0 where
  few_signals : length definitions < 65536
  few_registers : register_count (definitions ++ definition ∷ []) ≤ 4096
  few_inputs : gate_input_count (definitions ++ definition ∷ []) ≤ 262144

-- a definition that may stand after these
record MayFollow (definitions : List Definition) (definition : Definition) : Type 0 where
  named : HasName definition.name
  once : Contains (defined_names definitions) definition.name → ⊥
  inputs : IsTrue (has_valid_inputs definition)
  limits : IsWithinLimits definitions definition

-- none
none_valid : AreValid []
none_valid = record {
  names = All-nil _;
  distinct = λ i j d before within. absurd (omega arith);
  valid_inputs = All-nil _;
  few_signals = omega arith;
  few_registers = omega arith;
  few_inputs = omega arith;
}

-- one more
valid_push : (definitions : List Definition) (definition : Definition) → AreValid definitions
    → MayFollow definitions definition → AreValid (definitions ++ definition ∷ [])
valid_push definitions definition before may = record {
  names = All-push (λ d. HasName d.name) definitions definition before.names may.named;
  distinct = all_pairs_push
      (λ first second. first.name ≢ second.name) definitions definition before.distinct
      (λ k d within same. may.once (subst (Contains (defined_names definitions))
      (get_or-map (λ e. e.name) definitions k d d.name within ∙ same) (Contains-get_or
      (defined_names definitions) k d.name (omega (arith, length-map definitions (λ e. e.name))))));
  valid_inputs = All-push (λ d. IsTrue (is_valid d.kind (length d.inputs))) definitions definition
      before.valid_inputs may.inputs;
  few_signals = omega (arith, length_push definitions definition, may.limits.few_signals);
  few_registers = may.limits.few_registers;
  few_inputs = may.limits.few_inputs;
}

-- a definition without an excess
within_limits : (definitions : List Definition) (definition : Definition)
    → definition_excess definitions definition ≡ None → IsWithinLimits definitions definition
within_limits definitions definition = at (nat_le 65536 (length definitions))
    (nat_lt 4096 (register_count (definitions ++ definition ∷ [])))
    (nat_lt 262144 (gate_input_count (definitions ++ definition ∷ []))) refl refl refl
  where
    at : (s r i : Bool) → nat_le 65536 (length definitions) ≡ s
        → nat_lt 4096 (register_count (definitions ++ definition ∷ [])) ≡ r
        → nat_lt 262144 (gate_input_count (definitions ++ definition ∷ [])) ≡ i
        → (if s then Some Signals else if r then Some Registers else if i then Some Inputs
        else None) ≡ None → IsWithinLimits definitions definition
    at true r i signals registers inputs none = cc none
    at false true i signals registers inputs none = cc none
    at false false true signals registers inputs none = cc none
    at false false false signals registers inputs none = record {
      few_signals = grind (arith, nat_tests);
      few_registers = grind (arith, nat_tests);
      few_inputs = grind (arith, nat_tests);
    }

-- one more line
valid_line : (earlier : List (List ℕ)) (line : List ℕ) → AreValid (definitions_in earlier)
    → IsSoundLine earlier line → AreValid (definitions_in (earlier ++ line ∷ []))
valid_line earlier line before here =
    at (definition_of here.statement) refl here.sound.inputs here.sound.once here.sound.within
  where
    at : (o : Option Definition) → definition_of here.statement ≡ o
        → option_map_or has_valid_inputs o true ≡ true
        → option_map_or (is_defined_before (definitions_in earlier)) o false ≡ false
        → option_and_then (definition_excess (definitions_in earlier)) o ≡ None
        → AreValid (definitions_in (earlier ++ line ∷ []))
    at None none inputs once within = rw (definitions_push_none earlier line here.form none) before
    at (Some definition) some inputs once within =
        rw (definitions_push_some earlier line here.form some)
        (valid_push (definitions_in earlier) definition before (record {
          named = defined_name line here.statement definition here.form some here.sound.short;
          once = absent_from_any (defined_names (definitions_in earlier)) definition.name once;
          inputs = inputs;
          limits = within_limits (definitions_in earlier) definition within;
        }))

-- and more lines
valid_after : (prefix rest : List (List ℕ)) → first_fault_after bench_line_fault prefix rest ≡ None
    → AreValid (definitions_in prefix) → AreValid (definitions_in (prefix ++ rest))
valid_after prefix [] none before = rw append-nil before
valid_after prefix (line ∷ rest) none before =
    let parts : (prefix ++ line ∷ []) ++ rest ≡ prefix ++ line ∷ rest =
    append_assoc prefix (line ∷ []) rest in
    let (here, later) = neither (bench_line_fault prefix line) _ none in
    rw (← parts)
    (valid_after (prefix ++ line ∷ []) rest later
    (valid_line prefix line before (sound_line prefix line here)))

-- lines without a fault define what a netlist may have
pub valid_lines : (lines : List (List ℕ)) → first_fault_after bench_line_fault [] lines ≡ None
    → AreValid (definitions_in lines)
valid_lines lines flawless = valid_after [] lines flawless none_valid
