-- What the lines of a netlist say one after the other, each with its number. A line is read once:
-- what it says is kept for when all names are known.
use Rattle.std.specs.Prelude.{◌≡◌, ◌+◌, ℕ, List, [], ◌∷◌, map, Option, Some, None}
use Rattle.std.specs.Option.{option_map}
use Rattle.std.specs.List.{cons_option}
use Rattle.cts_base.specs.LineFormats.{first_fault}
use Rattle.cts_base.specs.Lines.{lines_of}
use Rattle.cts_model.specs.Vocabulary.{names_in, statement_of}
use Rattle.cts_model.specs.netlist.Statements.{Blank}
use Rattle.cts_model.specs.netlist.Statements as formats
use Rattle.bench_reader.specs.declared.definitions.Definitions.{Definitions}
use Rattle.bench_reader.specs.declared.said.Said.{Said}
use Rattle.bench_reader.specs.Faults.{bench_line_fault}
use Rattle.bench_reader.specs.Taken.{HasDefinitions}
use Rattle.bench_reader.specs.View.{said_by}

-- a statement, unless it says nothing
abbrev pub unless_blank : Option formats.Statement → Option formats.Statement
unless_blank None = None
unless_blank (Some Blank) = None
unless_blank (Some statement) = Some statement

-- what a line of this number says, unless it is blank
abbrev pub numbered_statement : ℕ → List ℕ → Option (ℕ × formats.Statement)
numbered_statement number line =
    option_map (λ statement. (number, statement)) (unless_blank (statement_of line))

-- what the lines from this number on say, but for blank ones
abbrev pub said_in : ℕ → List (List ℕ) → List (ℕ × formats.Statement)
said_in number [] = []
said_in number (line ∷ lines) =
    cons_option (numbered_statement number line) (said_in (number + 1) lines)

-- what is kept, wherever its names lie
abbrev pub kept_of : List Said → List (ℕ × formats.Statement)
kept_of said = map (λ one. (one.number, said_by one.statement)) said

-- no line of the text has a fault, these are the names that it defines, and this is what it says
pub record IsReading (text : List ℕ) (names : List (List ℕ)) (said : List Said) : Type 0 where
  pub flawless : first_fault bench_line_fault text ≡ None
  pub names_are : names ≡ names_in text
  pub said_are : kept_of said ≡ said_in 1 (lines_of text)

-- these are the definitions of the lines so far, and this is what they say
pub record HasRead (definitions : Definitions) (said : List Said) (lines : List (List ℕ))
    : Type 0 where
  pub has : HasDefinitions definitions lines
  pub said_are : kept_of said ≡ said_in 1 lines
