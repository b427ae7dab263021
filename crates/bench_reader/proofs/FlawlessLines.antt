-- What a line without a fault says.
use Rattle.bench_reader.proofs.Vocabulary.{◌≡◌, ◌+◌, ℕ, length, Bool, true, false, not, if◌then◌else◌, List, Option, Some, None, refl, option_map, option_and_then, option_map_or, list_all, is_short, Statement, Definition, statement_of, definition_of, names_of, definitions_in, has_kind, has_valid_inputs, is_defined_before, definition_excess, bench_line_fault, statement_fault, Name, BadLine, UnknownKind, WrongInputs, SignalTwice, TooLarge}
use Rattle.bench_reader.specs.declared.fault.Which.{Which}

-- nothing is wrong with a statement after these definitions
pub record IsSound (earlier : List Definition) (statement : Statement) : Type 0 where
  pub kind : has_kind statement ≡ true
  pub inputs : option_map_or has_valid_inputs (definition_of statement) true ≡ true
  pub once : option_map_or (is_defined_before earlier) (definition_of statement) false ≡ false
  pub short : list_all is_short (names_of statement) ≡ true
  pub within : option_and_then (definition_excess earlier) (definition_of statement) ≡ None

-- a line says something with which nothing is wrong
pub record IsSoundLine (earlier : List (List ℕ)) (line : List ℕ) : Type 0 where
  pub statement : Statement
  pub form : statement_of line ≡ Some statement
  pub sound : IsSound (definitions_in earlier) statement

-- a statement without a fault
sound_statement : (number : ℕ) (earlier : List Definition) (statement : Statement)
    → statement_fault number earlier statement ≡ None → IsSound earlier statement
sound_statement number earlier statement =
    at (has_kind statement) (option_map_or has_valid_inputs (definition_of statement) true)
    (option_map_or (is_defined_before earlier) (definition_of statement) false)
    (list_all is_short (names_of statement))
    (option_and_then (definition_excess earlier) (definition_of statement)) refl refl refl refl refl
  where
    at : (kind inputs twice short : Bool) (excess : Option Which) → has_kind statement ≡ kind
        → option_map_or has_valid_inputs (definition_of statement) true ≡ inputs
        → option_map_or (is_defined_before earlier) (definition_of statement) false ≡ twice
        → list_all is_short (names_of statement) ≡ short
        → option_and_then (definition_excess earlier) (definition_of statement) ≡ excess
        → (if not kind then Some (UnknownKind number) else if not inputs then Some
        (WrongInputs number) else if twice
        then Some (SignalTwice number) else option_map (TooLarge number)
        (if short then excess else Some Name)) ≡ None → IsSound earlier statement
    at false inputs twice short excess k i t s e none = cc none
    at true false twice short excess k i t s e none = cc none
    at true true true short excess k i t s e none = cc none
    at true true false false excess k i t s e none = cc none
    at true true false true (Some which) k i t s e none = cc none
    at true true false true None k i t s e none =
        record { kind = k; inputs = i; once = t; short = s; within = e }

-- a line without a fault
pub sound_line : (earlier : List (List ℕ)) (line : List ℕ) → bench_line_fault earlier line ≡ None
    → IsSoundLine earlier line
sound_line earlier line = at (statement_of line) refl
  where
    at : (o : Option Statement) → statement_of line ≡ o
        → option_map_or (statement_fault (length earlier + 1) (definitions_in earlier)) o
        (Some (BadLine (length earlier + 1))) ≡ None → IsSoundLine earlier line
    at None form none = cc none
    at (Some statement) form none = record {
      statement = statement;
      form = form;
      sound = sound_statement (length earlier + 1) (definitions_in earlier) statement none;
    }
