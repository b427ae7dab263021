-- What lines of an ISCAS'89 .bench netlist define, one after the other.
use Rattle.std.specs.Prelude.{ℕ, List, length, map, if◌then◌else◌, count_by}
use Rattle.std.specs.List.{filter_map, sum_by}
use Rattle.cts_model.specs.netlist.Kinds.{is_register, is_gate}
use Rattle.cts_model.specs.netlist.Statements.{Statement, Definition, statement_of, definition_of}

-- what lines say, in order
abbrev pub statements_in : List (List ℕ) → List Statement
statements_in lines = filter_map statement_of lines

-- what lines define, in order
abbrev pub definitions_in : List (List ℕ) → List Definition
definitions_in lines = filter_map definition_of (statements_in lines)

abbrev pub defined_names : List Definition → List (List ℕ)
defined_names definitions = map (λ definition. definition.name) definitions

abbrev pub register_count : List Definition → ℕ
register_count definitions = count_by (λ definition. is_register definition.kind) definitions

-- how many inputs a definition gives to a gate
abbrev pub gate_inputs_of : Definition → ℕ
gate_inputs_of definition = if is_gate definition.kind then length definition.inputs else 0

-- how many inputs definitions give to gates
abbrev pub gate_input_count : List Definition → ℕ
gate_input_count definitions = sum_by gate_inputs_of definitions
