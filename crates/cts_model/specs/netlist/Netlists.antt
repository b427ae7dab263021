-- The signals that the lines of an ISCAS'89 .bench netlist tell.
use Rattle.std.specs.Prelude.{◌==◌, ℕ, not, List, [], ◌∷◌, map, filter, Option, position}
use Rattle.std.specs.List.{filter_map}
use Rattle.std.specs.Str.{bytes_eq}
use Rattle.cts_base.specs.Lines.{lines_of}
use Rattle.cts_model.specs.Types.{Signal}
use Rattle.cts_model.specs.netlist.Definitions.{definitions_in, defined_names, statements_in}
use Rattle.cts_model.specs.netlist.Statements.{Definition, mention_of}

-- the number of a name is that of the definition that has it
abbrev pub number_of : List (List ℕ) → List ℕ → Option ℕ
number_of names name = position (bytes_eq name) names

-- the signal of a definition: its inputs are the numbers of their names
abbrev pub signal_of : List (List ℕ) → Definition → Signal
signal_of names definition = record {
  name = definition.name;
  kind = definition.kind;
  fan_in = filter_map (number_of names) definition.inputs;
}

-- each number where it stands first
abbrev pub first_mentions : List ℕ → List ℕ
first_mentions [] = []
first_mentions (number ∷ numbers) =
    number ∷ filter (λ other. not (other == number)) (first_mentions numbers)

-- the names that the lines of a text define, in order
abbrev pub names_in : List ℕ → List (List ℕ)
names_in text = defined_names (definitions_in (lines_of text))

-- the signals that a text denotes: one for each definition
abbrev pub signals_of : List ℕ → List Signal
signals_of text = map (signal_of (names_in text)) (definitions_in (lines_of text))

-- the signals that its OUTPUT lines mention
abbrev pub outputs_of : List ℕ → List ℕ
outputs_of text = first_mentions
    (filter_map (number_of (names_in text)) (filter_map mention_of (statements_in (lines_of text))))
