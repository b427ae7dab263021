-- What can be wrong with a line of an ISCAS'89 .bench netlist, in the order in which it is judged,
-- and with its text. The limits are this project's.
use Rattle.std.specs.Prelude.{ℕ, ◌+◌, ◌==◌, Bool, true, false, not, nat_le, nat_lt, List, [], ◌∷◌, ◌++◌, length, Option, Some, None, is_some, if◌then◌else◌}
use Rattle.std.specs.Option.{option_map, option_and_then, option_map_or, option_or}
use Rattle.std.specs.List.{list_any, list_all}
use Rattle.std.specs.Str.{bytes_eq}
use Rattle.cts_base.specs.LineFormats.{first_fault}
use Rattle.cts_base.specs.Lines.{lines_of}
use Rattle.cts_model.specs.Vocabulary.{definitions_in, defined_names, register_count, gate_input_count, is_valid, kind_of, names_in, number_of, Statement, Assign, Definition, statement_of, definition_of, names_of, uses_of, is_short}
use Rattle.bench_reader.specs.declared.fault.Which.{Which}
use Rattle.bench_reader.specs.declared.fault.Which.TheVariants.{Name, Signals, Registers, Inputs}
use Rattle.bench_reader.specs.declared.fault.BenchFault.{BenchFault}
use Rattle.bench_reader.specs.declared.fault.BenchFault.TheVariants.{BadLine, UnknownKind, WrongInputs, SignalTwice, TooLarge, Undefined, NoRegisters}

-- the word after `=` is a kind
abbrev pub has_kind : Statement → Bool
has_kind (Assign name word inputs) = is_some (kind_of word)
has_kind _ = true

-- a definition has a number of inputs that its kind may have
abbrev pub has_valid_inputs : Definition → Bool
has_valid_inputs definition = is_valid definition.kind (length definition.inputs)

-- one of the definitions before has its name
abbrev pub is_defined_before : List Definition → Definition → Bool
is_defined_before earlier definition = list_any (bytes_eq definition.name) (defined_names earlier)

-- the first limit that a definition passes after those before it, its names aside
abbrev pub definition_excess : List Definition → Definition → Option Which
definition_excess earlier definition =
    if nat_le 65536 (length earlier) then Some Signals
    else if nat_lt 4096 (register_count (earlier ++ definition ∷ [])) then Some Registers
    else if nat_lt 262144 (gate_input_count (earlier ++ definition ∷ [])) then Some Inputs
    else None

-- the first limit that a statement passes
abbrev pub excess_of : List Definition → Statement → Option Which
excess_of earlier statement =
    if list_all is_short (names_of statement)
    then option_and_then (definition_excess earlier) (definition_of statement)
    else Some Name

-- what is wrong with a statement in a line of this number, after the definitions before it
abbrev pub statement_fault : (number : ℕ) → List Definition → Statement → Option BenchFault
statement_fault number earlier statement =
    if not (has_kind statement) then Some (UnknownKind number)
    else if not (option_map_or has_valid_inputs (definition_of statement) true)
    then Some (WrongInputs number)
    else if option_map_or (is_defined_before earlier) (definition_of statement) false
    then Some (SignalTwice number)
    else option_map (TooLarge number) (excess_of earlier statement)

-- what is wrong with a line after the lines before it, if anything is
abbrev pub bench_line_fault : (earlier : List (List ℕ)) → (line : List ℕ) → Option BenchFault
bench_line_fault earlier line =
    option_map_or (statement_fault (length earlier + 1) (definitions_in earlier))
    (statement_of line) (Some (BadLine (length earlier + 1)))

-- each name that a statement uses is one of these
abbrev pub uses_defined : (names : List (List ℕ)) → Statement → Bool
uses_defined names statement = list_all (λ name. is_some (number_of names name)) (uses_of statement)

-- what is wrong with a line where these names are defined: that it uses another
abbrev pub use_fault : (names : List (List ℕ)) → (earlier : List (List ℕ)) → (line : List ℕ)
    → Option BenchFault
use_fault names earlier line =
    if option_map_or (uses_defined names) (statement_of line) true then None
    else Some (Undefined (length earlier + 1))

-- the first fault of a text, but for gates that read one another in a ring: that of a line, else
-- that a line uses a name which no line defines, else that no line defines a register
abbrev pub netlist_fault : (text : List ℕ) → Option BenchFault
netlist_fault text = option_or (first_fault bench_line_fault text)
    (option_or (first_fault (use_fault (names_in text)) text)
    (if register_count (definitions_in (lines_of text)) == 0 then Some NoRegisters else None))
