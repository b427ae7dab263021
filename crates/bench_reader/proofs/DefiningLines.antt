-- What is wrong with one more line, and what it adds to the definitions so far.
use Rattle.bench_reader.proofs.Vocabulary.{◌≡◌, ℕ, ◌+◌, cond, true, List, [], ◌∷◌, ◌++◌, length, Result, Ok, Err, Some, None, MatchResult, sym, ap, ◌∙◌, subst, arith, list_all, length-map, map_push, sum_by_push, IsFaultOf, is_register, is_short, Statement, Definition, statement_of, definition_of, names_of, definitions_in, defined_names, register_count, gate_inputs_of, gate_input_count, BenchFault, NoMemory, HasDefinitions, Adds, excess_after, fault_after, has_kind, has_valid_inputs, definition_excess, bench_line_fault}
use Rattle.bench_reader.specs.declared.definitions.Definitions.{Definitions}
use Rattle.bench_reader.proofs.LineStatements.{definitions_push_some, definitions_push_none}

module _ (earlier : List (List ℕ)) (line : List ℕ) (statement : Statement)
    (form : statement_of line ≡ Some statement) where
  -- a line that defines nothing leaves the definitions as they are
  silent_has : definition_of statement ≡ None → (definitions : Definitions)
      → HasDefinitions definitions earlier → HasDefinitions definitions (earlier ++ line ∷ [])
  silent_has none definitions has = record {
    names = rw (definitions_push_none earlier line form none) has.names;
    registers = rw (definitions_push_none earlier line form none) has.registers;
    gate_inputs = rw (definitions_push_none earlier line form none) has.gate_inputs;
  }

  -- and nothing is wrong with it, if its names are short
  pub silent_adds : definition_of statement ≡ None → has_kind statement ≡ true
      → list_all is_short (names_of statement) ≡ true
      → (definitions : Definitions) → HasDefinitions definitions earlier
      → (bench_line_fault earlier line ≡ None) × HasDefinitions definitions (earlier ++ line ∷ [])
  silent_adds none kind short definitions has =
      (rw (form, kind, none, short), silent_has none definitions has)

  module _ (definition : Definition) (some : definition_of statement ≡ Some definition) where
    -- its name comes last
    names_push : defined_names (definitions_in (earlier ++ line ∷ []))
        ≡ defined_names (definitions_in earlier) ++ definition.name ∷ []
    names_push = ap defined_names (definitions_push_some earlier line form some)
        ∙ map_push (λ d. d.name) (definitions_in earlier) definition

    -- it counts among the registers if it is one
    registers_push : register_count (definitions_in earlier ++ definition ∷ [])
        ≡ register_count (definitions_in earlier) + cond (is_register definition.kind) 1 0
    registers_push =
        sum_by_push (λ d. cond (is_register d.kind) 1 0) (definitions_in earlier) definition

    -- and its inputs among those of gates if it is one
    gate_inputs_push : gate_input_count (definitions_in earlier ++ definition ∷ [])
        ≡ gate_input_count (definitions_in earlier) + gate_inputs_of definition
    gate_inputs_push = sum_by_push gate_inputs_of (definitions_in earlier) definition

    -- so the definitions have one more
    defining_has : {old new : Definitions} → HasDefinitions old earlier
        → Adds old new definition.name definition.kind (length definition.inputs)
        → HasDefinitions new (earlier ++ line ∷ [])
    defining_has {old} {new} has added = record {
      names = added.names ∙ ap (λ names. names ++ definition.name ∷ []) has.names ∙ sym names_push;
      registers = rw (definitions_push_some earlier line form some)
          (omega (arith, added.registers, has.registers, registers_push));
      gate_inputs = rw (definitions_push_some earlier line form some)
          (omega (arith, added.gate_inputs, has.gate_inputs, gate_inputs_push));
    }

    -- and the limit that it passes shows in the counts
    excess_is : {old : Definitions} → HasDefinitions old earlier
        → definition_excess (definitions_in earlier) definition
        ≡ excess_after old definition.kind (length definition.inputs)
    excess_is {old} has = rw (
      has.names,
      has.registers,
      has.gate_inputs,
      length-map (definitions_in earlier) (λ d. d.name),
      registers_push,
      gate_inputs_push,
    )

    module _ (kind : has_kind statement ≡ true)
        (valid_inputs : has_valid_inputs definition ≡ true) where
      -- as does what is wrong with its line
      fault_is : {old : Definitions} (number : ℕ) → number ≡ length earlier + 1
          → HasDefinitions old earlier
          → bench_line_fault earlier line ≡ fault_after number old definition.name definition.kind
          (length definition.inputs) (list_all is_short (names_of statement))
      fault_is {old} number here has =
          rw (here, form, kind, some, valid_inputs, excess_is has, has.names)

      -- so a judgement by the counts is one of the line
      pub defining_adds : {T : Type 0} {old : Definitions} (number : ℕ) (new : Definitions)
          (result : Result T BenchFault) → MatchResult result
          (λ _. (fault_after number old definition.name definition.kind (length definition.inputs)
          (list_all is_short (names_of statement)) ≡ None)
          × Adds old new definition.name definition.kind (length definition.inputs))
          (IsFaultOf NoMemory (fault_after number old definition.name definition.kind
          (length definition.inputs) (list_all is_short (names_of statement))))
          → HasDefinitions old earlier → number ≡ length earlier + 1 → MatchResult result
          (λ _. (bench_line_fault earlier line ≡ None) × HasDefinitions new (earlier ++ line ∷ []))
          (IsFaultOf NoMemory (bench_line_fault earlier line))
      defining_adds number new (Ok done) judged has here =
          (fault_is number here has ∙ judged.0, defining_has has judged.1)
      defining_adds number new (Err fault) judged has here =
          subst (λ it. IsFaultOf NoMemory it fault) (sym (fault_is number here has)) judged
